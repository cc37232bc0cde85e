-- Laws of the areas and the commands. Assumes nothing.
use mathlib.Core.Path.{◌≡◌, refl, ap, sym, ◌∙◌}
use mathlib.Core.Bool.{Bool, true, false}
use mathlib.Core.List.{List, [], ◌∷◌, ◌++◌}
use Rattle.std.specs.Prelude.{Ok, Err, None, IsErrAnd}
use Rattle.std.proofs.lemmas.Result.{err_from_is_err_and}
use Prim.Native.Nat.{ℕ, zero, suc, ◌+◌, ◌/◌, ◌%◌, ◌≤◌, ◌<◌}
use native.Mathlib.Omega.{arith}
use lib.Dec.{eqb}
use lib.ListN.{length, get_or, take, drop}
use lib.Seq.{ext_get_or, take_at, drop_at}
use borrow.Author.Tests.{eqb-true, eqb-false, ne_eqb}
use Rattle.state.specs.declared.Cell.TheVariants.{High}
use Rattle.state.specs.declared.State.{State}
use Rattle.state.specs.declared.State.TheVariants as state
use Rattle.state.specs.Choice.{pick}
use Rattle.state.specs.Cells.{erased}
use Rattle.state.specs.Magic.{magic}
use Rattle.geometry.specs.declared.Geometry.{Geometry}
use Rattle.geometry.specs.declared.StateSizes.{StateSizes}
use Rattle.geometry.specs.declared.Refusal.{Refusal}
use Rattle.geometry.specs.Geometry.{page, pages}
use Rattle.geometry.specs.Refusals.{Verdict, number, verdict, boot_refusal}
use Rattle.geometry.proofs.Tests.{number_some}
use Rattle.geometry.proofs.PageSize.{page_some}
use Rattle.geometry.proofs.Rows.{admitted}
use Rattle.mem_flash.specs.Flash.{Flash}
use Rattle.mem_flash.specs.Run.{flash}
use Rattle.rules.specs.declared.Stop.TheVariants.{Refused}
use Rattle.rules.specs.Calls.{Answer, Call, Did, report, reported, left}
use Rattle.rules.specs.Boot.{prepare_boot}
use Rattle.rules.specs.FirmwareState.{mark}
use Rattle.rules.proofs.Marks.{on_mark, did_beside}
use Rattle.lines.specs.declared.Lengths.{Lengths}
use Rattle.lines.specs.declared.Command.{Command}
use Rattle.lines.specs.declared.Command.TheVariants.{Update, Booted, Boot}
use Rattle.lines.specs.Lines.{most_length}
use Rattle.lines.specs.Grammar.{number_of}
use Rattle.bench_images.specs.declared.Areas.{Areas}
use Rattle.bench_images.specs.Images.{filled_from, filled, blank, start_of, call_of, bench_call, areas, used, Fit, Begun, Obeyed}

-- ---- filling

filled_length : (size before i n : ℕ) → length (filled_from size before i n) ≡ n
unfolding filled_from
filled_length size before i zero = refl
filled_length size before i (suc n) = ap suc (filled_length size before (suc i) n)

filled_at : (size before i n j : ℕ) → j < n → get_or (filled_from size before i n) j 0 ≡ (before + (i + j) / size + 1) % 256
unfolding filled_from
filled_at size before i zero j h = absurd (omega arith)
filled_at size before i (suc n) zero h =
    let e : i + 0 ≡ i = omega arith in
    rw e refl
filled_at size before i (suc n) (suc j) h =
    let e : i + suc j ≡ suc i + j = omega arith in
    rw e (filled_at size before (suc i) n j (omega arith))

pub all_filled : (size before : ℕ) (area : List ℕ) → ((j : ℕ) → j < length area → get_or area j 0 ≡ (before + j / size + 1) % 256)
    → area ≡ filled size before (length area)
unfolding filled
all_filled size before area h =
    ext_get_or 0 area (filled_from size before 0 (length area)) (sym (filled_length size before 0 (length area)))
    (λ j l. h j l ∙ sym (filled_at size before 0 (length area) j l ∙ zero_place size before j))
  where
    zero_place : (size before j : ℕ) → (before + (0 + j) / size + 1) % 256 ≡ (before + j / size + 1) % 256
    zero_place size before j = let e : 0 + j ≡ j = omega arith in rw e refl

-- the first of them
take_from : (size before i n m : ℕ) → n ≤ m → take n (filled_from size before i m) ≡ filled_from size before i n
unfolding filled_from
take_from size before i zero m h = refl
take_from size before i (suc n) zero h = absurd (omega arith)
take_from size before i (suc n) (suc m) h = ap (λ (x : List ℕ). (before + i / size + 1) % 256 ∷ x) (take_from size before (suc i) n m (omega arith))

take_filled : (size before n m : ℕ) → n ≤ m → take n (filled size before m) ≡ filled size before n
unfolding filled
take_filled size before n m h = take_from size before 0 n m h

take_blank : (n m : ℕ) → n ≤ m → take n (blank m) ≡ blank n
take_blank zero m h = refl
take_blank (suc n) zero h = absurd (omega arith)
take_blank (suc n) (suc m) h = ap (λ (x : List ℕ). erased High ∷ x) (take_blank n m (omega arith))

-- ---- the first two lines

module _ (g : Geometry) (l : Lengths) (v : Verdict) (judged : verdict v ≡ boot_refusal g l.active l.dfu l.state) where
  pub begun_refused : (f : Areas) (why : Refusal) → v ≡ Err why → f.active ≡ blank most_length → f.dfu ≡ blank most_length
      → f.state ≡ blank most_length → Begun g l f v
  unfolding verdict
  begun_refused f why e x y z =
      let h : 0 < verdict v = rw e (number_some why) in
      record { judged = judged; started = λ n. absurd (omega arith); refused = λ p. (x, y); state = z }

  module _ (admits : v ≡ Ok tt) where
    none_refused : verdict v ≡ 0
    unfolding verdict
    none_refused = ap verdict admits

    pub page_there : (size : ℕ) → size ≡ page g → 0 < size
    page_there size e = rw e (page_some (admitted g l.active l.dfu l.state (sym judged ∙ none_refused)).numbers)

    pub begun_admitted : (size : ℕ) (f : Areas) → size ≡ page g → f.active ≡ filled size 0 most_length
        → f.dfu ≡ filled size (l.active / size) most_length → f.state ≡ blank most_length → Begun g l f v
    unfolding pages
    begun_admitted size f e x y z =
        record { judged = judged; started = λ n. rw (← e) (x, y); refused = λ p. absurd (omega (arith, none_refused)); state = z }

-- the part that is used starts as it is said to
start_by : (t : Bool) (g : Geometry) (l : Lengths) (f : Areas) (v : Verdict) → eqb (boot_refusal g l.active l.dfu l.state) 0 ≡ t
    → Begun g l f v → Fit l
    → used l f
    ≡ pick t
    (flash (filled (page g) 0 l.active) (filled (page g) (pages g l.active) l.dfu) (blank l.state))
    (flash (blank l.active) (blank l.dfu) (blank l.state))
unfolding pick
start_by true g l a v e b f =
    let p = b.started (b.judged ∙ eqb-true _ _ e) in
    rw (
      p.0,
      p.1,
      b.state,
      take_filled (page g) 0 l.active most_length f.active,
      take_filled (page g) (pages g l.active) l.dfu most_length f.dfu,
      take_blank l.state most_length f.state,
    ) refl
start_by false g l a v e b f =
    let n : boot_refusal g l.active l.dfu l.state ≡ 0 → ⊥ = eqb-false _ _ e in
    let p = b.refused (some_number _ (λ z. n (sym b.judged ∙ z))) in
    rw (
      p.0,
      p.1,
      b.state,
      take_blank l.active most_length f.active,
      take_blank l.dfu most_length f.dfu,
      take_blank l.state most_length f.state,
    ) refl
  where
    some_number : (n : ℕ) → (n ≡ 0 → ⊥) → 0 < n
    some_number zero h = absurd (h refl)
    some_number (suc n) h = omega arith

pub start_used : (g : Geometry) (l : Lengths) (f : Areas) (v : Verdict) → Begun g l f v → Fit l → used l f ≡ start_of g l
unfolding start_of
start_used g l f v b fit = start_by _ g l f v refl b fit

-- ---- a mark changes the state area alone

did_mark : (s : State) (z : StateSizes) (k : ℕ) (a d st st' : List ℕ) (r : Answer) → Did (mark s z st) k (flash [] [] st) (flash [] [] st') r
    → Did (mark s z st) k (flash a d st) (flash a d st') r
unfolding mark
did_mark s z k a d st st' r h = did_beside (mark s z st) k a d (on_mark z (magic s) st) h

-- ---- the calls, with the geometry's sizes

module _ (g : Geometry) (z : StateSizes) (same : z ≡ g.state) (command : Command) (k : ℕ) (a d st st' : List ℕ) (r : Answer) where
  pub did_update : command ≡ Update k → Did (mark state.Swap z st) k (flash [] [] st) (flash [] [] st') r
      → Did (call_of g command (flash a d st)) (number_of command) (flash a d st) (flash a d st') r
  unfolding call_of
  did_update e h = rw (e, ← same) (did_mark state.Swap z k a d st st' r h)

  pub did_booted : command ≡ Booted k → Did (mark state.Boot z st) k (flash [] [] st) (flash [] [] st') r
      → Did (call_of g command (flash a d st)) (number_of command) (flash a d st) (flash a d st') r
  unfolding call_of
  did_booted e h = rw (e, ← same) (did_mark state.Boot z k a d st st' r h)

pub did_boot : (g h : Geometry) (command : Command) (k : ℕ) (f f' : Flash) (r : Answer) → h ≡ g → command ≡ Boot k
    → Did (prepare_boot h f) k f f' r → Did (call_of g command f) (number_of command) f f' r
unfolding call_of
did_boot g h command k f f' r e q p = rw (q, ← e) p

-- ---- the parts that are lent

pub parts_obeyed : (call : Call) (k : ℕ) (l : Lengths) (f : Areas) (a d s : List ℕ) (r : Answer)
    → length a ≡ l.active → length d ≡ l.dfu → length s ≡ l.state → Did call k (used l f) (flash a d s) r
    → Obeyed call k l f (areas (a ++ drop l.active f.active) (d ++ drop l.dfu f.dfu) (s ++ drop l.state f.state)) r
parts_obeyed call k l f a d s r x y z h =
    record {
      did = rw (take_at a (drop l.active f.active) l.active x, take_at d (drop l.dfu f.dfu) l.dfu y, take_at s (drop l.state f.state) l.state z) h;
      active = drop_at a (drop l.active f.active) l.active x;
      dfu = drop_at d (drop l.dfu f.dfu) l.dfu y;
      state = drop_at s (drop l.state f.state) l.state z;
    }

-- ---- where a boot is refused, and where it is not

module _ (g : Geometry) (v : Verdict) (c : Command) (k : ℕ) (f : Flash) where
  pub call_admitted : v ≡ Ok tt → bench_call g (verdict v) c f ≡ call_of g c f
  unfolding bench_call verdict pick
  call_admitted e = rw e refl

  refused_by : (n : ℕ) → 0 < n → (why : Refusal) → number why ≡ n
      → Did (pick (eqb n 0) (call_of g c f) (record { refusal = n; state = None; ops = [] })) k f f (Err (Refused why))
  unfolding pick report left reported
  refused_by n h why e =
      let z : eqb n 0 ≡ false = ne_eqb n 0 (λ q. omega arith) in
      rw z (record { answer = rw (z, e) refl; flash = rw z refl })

  pub did_refused : {why : Refusal} → v ≡ Err why → (r : Answer) → IsErrAnd r (λ s. s ≡ Refused why) → Did (bench_call g (verdict v) c f) k f f r
  unfolding bench_call verdict
  did_refused {why} e r i = let p = err_from_is_err_and r i in rw (p.1, p.2, e) (refused_by (number why) (number_some why) why refl)

pub nothing_obeyed : (call : Call) (k : ℕ) (l : Lengths) (f : Areas) (r : Answer) → Did call k (used l f) (used l f) r → Obeyed call k l f f r
nothing_obeyed call k l f r h = record { did = h; active = refl; dfu = refl; state = refl }
