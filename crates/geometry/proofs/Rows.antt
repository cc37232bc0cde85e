-- What is left where no row holds: the facts that `Admitted` lists. `boot_verdict` and the boot loader cite them.
-- Assumes nothing.
use mathlib.Core.Path.{◌≡◌, refl, ap, ◌∙◌, sym}
use mathlib.Core.Bool.{Bool, true, false}
use mathlib.Core.List.{List, [], ◌∷◌, ◌++◌, append_assoc}
use Prim.Native.Nat.{ℕ, ◌%◌, ◌≤◌, ◌<◌}
use native.Mathlib.Omega.{arith}
use borrow.Author.Tests.{ltb-false}
use Rattle.geometry.specs.declared.Geometry.{Geometry}
use Rattle.geometry.specs.declared.StateSizes.{StateSizes}
use Rattle.geometry.specs.declared.Sizes.{Sizes}
use Rattle.geometry.specs.declared.Refusal.TheVariants.{Limit, Page, Area, StateArea, BadState, Range, Checksum}
use Rattle.std.specs.Prelude.{Ok, Err}
use Rattle.geometry.specs.Geometry.{pages}
use Rattle.geometry.specs.Refusals.{verdict, Row, row, first_row, boot_refusal, state_refusal, updater_rows, updater_refusal, checked_refusal, most_length}
use Rattle.geometry.specs.Refusals.{outside, state_numbers, boot_numbers, updater_numbers, uneven, uneven_page, uneven_areas, bad_state, boot_words, other_words}
use Rattle.geometry.specs.Admitted.{Number, Numbers, Admitted}
use Rattle.geometry.proofs.Tests.{any_none, row_none, row_here, row_past, row_end, rows_early, rows_late, number_in, length_in, even}
use Rattle.geometry.proofs.PageSize.{page_ea, page_ed}

-- row 1
pub record Limits (g : Geometry) (la ld ls : ℕ) : Type 0 where
  pub numbers : Numbers g
  pub active : la ≤ most_length
  pub dfu : ld ≤ most_length
  pub state : ls ≤ most_length

pub limits_in : (g : Geometry) (la ld ls : ℕ) → outside (boot_numbers g) g.state.ev (la ∷ ld ∷ ls ∷ []) ≡ false → Limits g la ld ls
unfolding outside boot_numbers state_numbers
limits_in g la ld ls e =
    let a = any_none _ _ e in
    let b = any_none _ _ a.1 in
    let c = any_none _ _ b.1 in
    let d = any_none _ _ c.1 in
    let i = any_none _ _ d.1 in
    let j = any_none _ _ i.1 in
    let k = any_none _ _ j.1 in
    let v = any_none _ _ k.1 in
    let l = any_none _ _ v.1 in
    let m = any_none _ _ l.1 in
    let n = any_none _ _ m.1 in
    record {
      numbers =
          record {
            ea = number_in a.0;
            wa = number_in b.0;
            ed = number_in c.0;
            wd = number_in d.0;
            es = number_in j.0;
            ws = number_in k.0;
            b = number_in i.0;
          };
      active = length_in _ l.0;
      dfu = length_in _ m.0;
      state = length_in _ n.0;
    }

-- all four
pub admitted : (g : Geometry) (la ld ls : ℕ) → boot_refusal g la ld ls ≡ 0 → Admitted g la ld ls
unfolding boot_refusal uneven_page uneven_areas bad_state
admitted g la ld ls e =
    let r = row_none _ _ _ e in
    let s = row_none _ _ _ r.1 in
    let t = row_none _ _ _ s.1 in
    let u = row_none _ _ _ t.1 in
    let limits = limits_in g la ld ls r.0 in
    let a = any_none _ _ s.0 in
    let c = any_none _ _ a.1 in
    let d = any_none _ _ c.1 in
    let i = any_none _ _ d.1 in
    let j = any_none _ _ i.1 in
    let k = any_none _ _ j.1 in
    let l = any_none _ _ k.1 in
    let m = any_none _ _ t.0 in
    let n = any_none _ _ m.1 in
    let o = any_none _ _ n.1 in
    let p = any_none _ _ u.0 in
    let q = any_none _ _ p.1 in
    let v = any_none _ _ q.1 in
    record {
      numbers = limits.numbers;
      active_most = limits.active;
      dfu_most = limits.dfu;
      state_most = limits.state;
      page_most = ltb-false _ _ a.0;
      page_ea = page_ea limits.numbers;
      page_ed = page_ed limits.numbers;
      page_wa = even _ _ c.0;
      page_wd = even _ _ d.0;
      page_b = even _ _ i.0;
      chunk_wa = even _ _ j.0;
      chunk_wd = even _ _ k.0;
      chunk_ws = ltb-false _ _ l.0;
      active_pages = even _ _ m.0;
      dfu_pages = even _ _ n.0;
      dfu_longer = ltb-false _ _ o.0;
      unit_words = even _ _ p.0;
      state_units_lem = even _ _ q.0;
      state_words = ltb-false _ _ v.0;
    }

-- which row decides: the rows before it do not hold
module _ (g : Geometry) (la ld ls : ℕ) where
  pub boot_limit : outside (boot_numbers g) g.state.ev (la ∷ ld ∷ ls ∷ []) ≡ true → verdict (Err Limit) ≡ boot_refusal g la ld ls
  unfolding verdict boot_refusal
  boot_limit p = sym (row_here _ _ p)

  module _ (p : outside (boot_numbers g) g.state.ev (la ∷ ld ∷ ls ∷ []) ≡ false) where
    pub boot_page : uneven_page g ≡ true → verdict (Err Page) ≡ boot_refusal g la ld ls
    unfolding verdict boot_refusal
    boot_page q = sym (row_past _ _ p ∙ row_here _ _ q)

    module _ (q : uneven_page g ≡ false) where
      pub boot_area : uneven_areas g la ld ≡ true → verdict (Err Area) ≡ boot_refusal g la ld ls
      unfolding verdict boot_refusal
      boot_area r = sym (row_past _ _ p ∙ row_past _ _ q ∙ row_here _ _ r)

      module _ (r : uneven_areas g la ld ≡ false) where
        pub boot_state : bad_state (boot_words (pages g la)) g.state ls ≡ true → verdict (Err StateArea) ≡ boot_refusal g la ld ls
        unfolding verdict boot_refusal
        boot_state s = sym (row_past _ _ p ∙ row_past _ _ q ∙ row_past _ _ r ∙ row_here _ _ s)

        pub boot_admitted : bad_state (boot_words (pages g la)) g.state ls ≡ false → verdict (Ok tt) ≡ boot_refusal g la ld ls
        unfolding verdict boot_refusal
        boot_admitted s = sym (row_past _ _ p ∙ row_past _ _ q ∙ row_past _ _ r ∙ row_past _ _ s ∙ row_end)

-- row 1 of a state area: its sizes are positive, so that they may divide
state_some : (z : StateSizes) (ns : List ℕ) → outside (state_numbers z) z.ev ns ≡ false → (0 < z.es) × (0 < z.ws)
unfolding outside state_numbers
state_some z ns p =
    let a = any_none _ _ p in
    ((number_in a.0).some, (number_in (any_none _ _ a.1).0).some)

module _ (z : StateSizes) (ls : ℕ) where
  pub state_limit : outside (state_numbers z) z.ev (ls ∷ []) ≡ true → verdict (Err Limit) ≡ state_refusal z ls
  unfolding verdict state_refusal
  state_limit p = sym (row_here _ _ p)

  module _ (p : outside (state_numbers z) z.ev (ls ∷ []) ≡ false) where
    pub state_numbers_lem : (0 < z.es) × (0 < z.ws)
    state_numbers_lem = state_some z _ p

    pub state_short : bad_state 2 z ls ≡ true → verdict (Err StateArea) ≡ state_refusal z ls
    unfolding verdict state_refusal other_words
    state_short s = sym (row_past _ _ p ∙ row_here _ _ s)

    pub state_admitted : bad_state 2 z ls ≡ false → verdict (Ok tt) ≡ state_refusal z ls
    unfolding verdict state_refusal other_words
    state_admitted s = sym (row_past _ _ p ∙ row_past _ _ s ∙ row_end)

-- the updater: rows 1 to 4
module _ (z : Sizes) (ld ls : ℕ) where
  pub updater_limit : outside (updater_numbers z) z.state.ev (ld ∷ ls ∷ []) ≡ true → verdict (Err Limit) ≡ updater_refusal z ld ls false false
  unfolding verdict updater_refusal updater_rows
  updater_limit p = sym (row_here _ _ p)

  module _ (p : outside (updater_numbers z) z.state.ev (ld ∷ ls ∷ []) ≡ false) where
    -- the numbers are positive, so that they may divide
    pub updater_numbers_lem : (0 < z.ed) × (0 < z.wd) × (0 < z.state.es) × (0 < z.state.ws)
    unfolding outside updater_numbers
    updater_numbers_lem =
        let a = any_none _ _ p in
        let b = any_none _ _ a.1 in
        let s = state_some z.state (ld ∷ ls ∷ []) b.1 in
        ((number_in a.0).some, (number_in b.0).some, s.0, s.1)

    pub updater_page : uneven z.ed z.wd ≡ true → verdict (Err Page) ≡ updater_refusal z ld ls false false
    unfolding verdict updater_refusal updater_rows
    updater_page q = sym (row_past _ _ p ∙ row_here _ _ q)

    module _ (q : uneven z.ed z.wd ≡ false) where
      pub updater_area : uneven ld z.ed ≡ true → verdict (Err Area) ≡ updater_refusal z ld ls false false
      unfolding verdict updater_refusal updater_rows
      updater_area r = sym (row_past _ _ p ∙ row_past _ _ q ∙ row_here _ _ r)

      module _ (r : uneven ld z.ed ≡ false) where
        pub updater_state : bad_state 2 z.state ls ≡ true → verdict (Err StateArea) ≡ updater_refusal z ld ls false false
        unfolding verdict updater_refusal updater_rows other_words
        updater_state s = sym (row_past _ _ p ∙ row_past _ _ q ∙ row_past _ _ r ∙ row_here _ _ s)

        pub updater_admitted : bad_state 2 z.state ls ≡ false → verdict (Ok tt) ≡ updater_refusal z ld ls false false
        unfolding verdict updater_refusal updater_rows other_words
        updater_admitted s =
            sym (row_past _ _ p ∙ row_past _ _ q ∙ row_past _ _ r ∙ row_past _ _ s ∙ row_past _ _ refl ∙ row_past _ _ refl ∙ row_end)

-- what the updater's rows 1 to 4 leave: the areas are whole numbers of units
pub record UpdaterAdmitted (z : Sizes) (ld : ℕ) : Type 0 where
  pub ed : Number z.ed
  pub wd : Number z.wd
  pub dfu_units : ld % z.ed ≡ 0
  pub dfu_most : ld ≤ most_length

pub updater_admits : (z : Sizes) (ld ls : ℕ) (swap range : Bool) → updater_refusal z ld ls swap range ≡ 0
    → UpdaterAdmitted z ld × (range ≡ false)
unfolding updater_refusal updater_rows outside updater_numbers state_numbers
updater_admits z ld ls swap range e =
    let r = row_none _ _ _ e in
    let s = row_none _ _ _ r.1 in
    let t = row_none _ _ _ s.1 in
    let u = row_none _ _ _ t.1 in
    let v = row_none _ _ _ u.1 in
    let w = row_none _ _ _ v.1 in
    let a = any_none _ _ r.0 in
    let b = any_none _ _ a.1 in
    let c = any_none _ _ b.1 in
    let d = any_none _ _ c.1 in
    let v = any_none _ _ d.1 in
    let l = any_none _ _ v.1 in
    (record { ed = number_in a.0; wd = number_in b.0; dfu_units = even _ _ t.0; dfu_most = length_in _ l.0 }, w.0)

-- rows 1 to 4 of the updater, said of any rows 5 and 6
module _ (z : Sizes) (ld ls : ℕ) (swap range : Bool) where
  -- one of rows 1 to 4 holds: it is given whatever rows 5 and 6 say
  pub updater_early : (n : ℕ) → 0 < n → n ≡ updater_refusal z ld ls false false → n ≡ updater_refusal z ld ls swap range
  unfolding updater_refusal
  updater_early n h e =
      let none : first_row (row BadState false ∷ row Range false ∷ []) ≡ 0 = row_past _ _ refl ∙ row_past _ _ refl ∙ row_end in
      e ∙ rows_early (updater_rows z ld ls) _ _ none (omega arith)

  -- none holds: row 5 decides, and then row 6
  module _ (e : updater_refusal z ld ls false false ≡ 0) where
    late : updater_refusal z ld ls swap range ≡ first_row (row BadState swap ∷ row Range range ∷ [])
    unfolding updater_refusal
    late = rows_late (updater_rows z ld ls) _ _ e

    pub updater_swap : swap ≡ true → verdict (Err BadState) ≡ updater_refusal z ld ls swap range
    unfolding verdict
    updater_swap h = sym (late ∙ row_here _ _ h)

    module _ (h : swap ≡ false) where
      pub updater_range : range ≡ true → verdict (Err Range) ≡ updater_refusal z ld ls swap range
      unfolding verdict
      updater_range k = sym (late ∙ row_past _ _ h ∙ row_here _ _ k)

      pub updater_passed : range ≡ false → verdict (Ok tt) ≡ updater_refusal z ld ls swap range
      unfolding verdict
      updater_passed k = sym (late ∙ row_past _ _ h ∙ row_past _ _ k ∙ row_end)

-- rows 6 and 8 of check_and_mark_updated, behind rows 1 to 5
module _ (z : Sizes) (ld ls : ℕ) (swap range sum : Bool) where
  abbrev asked : List Row
  asked = updater_rows z ld ls ++ (row BadState swap ∷ [])

  apart : checked_refusal z ld ls swap range sum ≡ first_row (asked ++ (row Range range ∷ row Checksum sum ∷ []))
  unfolding checked_refusal
  apart = ap first_row (sym (append_assoc (updater_rows z ld ls) (row BadState swap ∷ []) (row Range range ∷ row Checksum sum ∷ [])))

  alone : updater_refusal z ld ls swap false ≡ first_row (asked ++ (row Range false ∷ []))
  unfolding updater_refusal
  alone = ap first_row (sym (append_assoc (updater_rows z ld ls) (row BadState swap ∷ []) (row Range false ∷ [])))

  -- one of rows 1 to 5 holds: it is given
  pub checked_early : (n : ℕ) → 0 < n → n ≡ updater_refusal z ld ls swap false → n ≡ checked_refusal z ld ls swap range sum
  checked_early n h e =
      let a : n ≡ first_row (asked ++ (row Range false ∷ [])) = e ∙ alone in
      a ∙ rows_early asked _ _ (row_past _ _ refl ∙ row_end) (omega arith) ∙ sym apart

  -- none of them holds: row 6 decides, and then row 8
  module _ (e : updater_refusal z ld ls swap false ≡ 0) where
    behind : checked_refusal z ld ls swap range sum ≡ first_row (row Range range ∷ row Checksum sum ∷ [])
    behind = apart ∙ rows_late asked _ _ (sym alone ∙ e)

    pub checked_range : range ≡ true → verdict (Err Range) ≡ checked_refusal z ld ls swap range sum
    unfolding verdict
    checked_range h = sym (behind ∙ row_here _ _ h)

    module _ (h : range ≡ false) where
      pub checked_sum : sum ≡ true → verdict (Err Checksum) ≡ checked_refusal z ld ls swap range sum
      unfolding verdict
      checked_sum k = sym (behind ∙ row_past _ _ h ∙ row_here _ _ k)

      pub checked_passed : sum ≡ false → verdict (Ok tt) ≡ checked_refusal z ld ls swap range sum
      unfolding verdict
      checked_passed k = sym (behind ∙ row_past _ _ h ∙ row_past _ _ k ∙ row_end)

-- where no row holds the sum is right, and the updater's rows 1 to 4 do not hold
pub checked_none : (z : Sizes) (ld ls : ℕ) (swap range sum : Bool) → checked_refusal z ld ls swap range sum ≡ 0
    → (sum ≡ false) × (updater_refusal z ld ls false false ≡ 0)
unfolding checked_refusal updater_refusal updater_rows
checked_none z ld ls swap range sum e =
    let r = row_none _ _ _ e in
    let s = row_none _ _ _ r.1 in
    let t = row_none _ _ _ s.1 in
    let u = row_none _ _ _ t.1 in
    let v = row_none _ _ _ u.1 in
    let w = row_none _ _ _ v.1 in (
      (row_none _ _ _ w.1).0,
      row_past _ _ r.0 ∙ row_past _ _ s.0 ∙ row_past _ _ t.0 ∙ row_past _ _ u.0 ∙ row_past _ _ refl ∙ row_past _ _ refl ∙ row_end,
    )
