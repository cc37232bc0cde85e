-- Laws of the end of the output. Assumes nothing.
use Rattle.std.proofs.Common.{◌⊎◌, inl, inr, ◌≡◌, ℕ, zero, suc, ◌+◌, ◌-◌, ◌/◌, ◌%◌, ◌^◌, ◌<◌, ◌≤◌, List, [], ◌∷◌, ◌++◌, length, take, drop, sym, refl, ap, ◌∙◌, append_assoc, append-nil, mod-eq_of_lt, arith, take-append-drop, drop_of_length-le, length-take, drop-drop}
use lib.Seq.{take-nil}
use Rattle.io.specs.Digits.{hex_digit_ascii}
use Rattle.geometry.specs.declared.Geometry.{Geometry}
use Rattle.mem_flash.specs.Flash.{Flash}
use Rattle.numerals.specs.Text.{space, split}
use Rattle.lines.specs.declared.Lengths.{Lengths}
use Rattle.lines.specs.Lines.{line_feed, lines, closed, most_length}
use Rattle.answer_text.specs.Answers.{bad_line_text, hex_of}
use Rattle.bench_images.specs.declared.Setup.{Setup}
use Rattle.bench_images.specs.declared.Areas.{Areas}
use Rattle.bench_images.specs.Images.{used}
use Rattle.bench_output.specs.Output.{active, dfu, state, area_text, areas_text, at_end, written}
use Rattle.bench_lines.specs.declared.Phase.{Phase}
use Rattle.bench_lines.specs.declared.Phase.TheVariants as phases
use Rattle.bench_lines.specs.declared.Machine.{Machine}
use Rattle.bench_lines.specs.Machine.{stage_of, most_lines, unread, to_come, Sound, Counted}
use Rattle.bench_areas.specs.declared.Tail.{Tail}
use Rattle.bench_areas.specs.declared.Tail.TheVariants as tails
use Rattle.bench_areas.specs.Tail.{state_from, dfu_from, active_from, tail_text, Room, due, Moved, bytes, ends}

-- ---- hexadecimal in parts

hex_both : (xs ys : List ℕ) → hex_of (xs ++ ys) ≡ hex_of xs ++ hex_of ys
unfolding hex_of
hex_both [] ys = refl
hex_both (x ∷ xs) ys = ap (λ (t : List ℕ). hex_digit_ascii (x / 16) ∷ hex_digit_ascii (x % 16) ∷ t) (hex_both xs ys)

hex_part : (xs z : List ℕ) (at : ℕ) → hex_of (drop at xs) ++ z ≡ hex_of (take 32 (drop at xs)) ++ (hex_of (drop (at + 32) xs) ++ z)
hex_part xs z at =
    ap (λ (t : List ℕ). hex_of t ++ z) (sym (take-append-drop 32 (drop at xs)))
    ∙ ap (λ (t : List ℕ). t ++ z) (hex_both (take 32 (drop at xs)) (drop 32 (drop at xs)))
    ∙ ap (λ (t : List ℕ). (hex_of (take 32 (drop at xs)) ++ hex_of t) ++ z) (drop-drop 32 at xs)
    ∙ append_assoc (hex_of (take 32 (drop at xs))) (hex_of (drop (at + 32) xs)) z

hex_end : (xs z : List ℕ) (at : ℕ) → length xs ≤ at → hex_of (drop at xs) ++ z ≡ z
unfolding hex_of
hex_end xs z at h = ap (λ (t : List ℕ). hex_of t ++ z) (drop_of_length-le xs h)

-- a part of a slice
pub part_is : (at n : ℕ) (xs : List ℕ) → at ≤ n → take (n - at) (drop at xs) ≡ drop at (take n xs)
part_is zero n xs h = let e : n - 0 ≡ n = omega arith in rw e refl
part_is (suc at) zero xs h = absurd (omega arith)
part_is (suc at) (suc n) [] h = take-nil (suc n - suc at)
part_is (suc at) (suc n) (x ∷ xs) h =
    let e : suc n - suc at ≡ n - at = omega arith in
    rw e (part_is at n xs (omega arith))

-- ---- a text of an area, whichever it is

module _ (area label z : List ℕ) (f : Areas) (n at m base : ℕ) (again : ℕ → Tail) (then t : Tail) (text : List ℕ) (big : length area ≡ most_length)
    (next : m ≡ (at + 32) % 2 ^ 64) (moved : Moved area n at (again m) label then t text) where
  place : at < n → n ≤ length area → m ≡ at + 32
  place h k = next ∙ mod-eq_of_lt {n = at + 32} {m = 2 ^ 64} (omega arith)

  moved_text : n ≤ most_length → ((i : ℕ) → tail_text (again i) f ≡ hex_of (drop i (take n area)) ++ (label ++ z))
      → tail_text then f ≡ z → tail_text (again at) f ≡ text ++ tail_text t f
  moved_text fit is end = by t text moved
    where
      by : (t : Tail) (text : List ℕ) → Moved area n at (again m) label then t text → tail_text (again at) f ≡ text ++ tail_text t f
      by t text (bytes e l k q) =
          is at ∙ hex_part (take n area) (label ++ z) at
          ∙ rw (q, e, place l k) (ap (λ (x : List ℕ). hex_of (take 32 (drop at (take n area))) ++ x) (sym (is (at + 32))))
      by t text (ends e l q) =
          is at ∙ hex_end (take n area) (label ++ z) at (omega (arith, l (omega arith), length-take n area)) ∙ rw (q, e, end) refl

  moved_due : ((i : ℕ) → due (again i) ≡ base + (n - i)) → due then < base → due t < due (again at)
  moved_due is end = by t text moved
    where
      by : (t : Tail) (text : List ℕ) → Moved area n at (again m) label then t text → due t < due (again at)
      by t text (bytes e l k q) = rw (e, is m, is at, place l k) (omega arith)
      by t text (ends e l q) = rw (e, is at) (omega arith)

  moved_room : Room (again m) → Room then → Room t
  moved_room x y = by t text moved
    where
      by : (t : Tail) (text : List ℕ) → Moved area n at (again m) label then t text → Room t
      by t text (bytes e l k q) = rw e x
      by t text (ends e l q) = rw e y

-- of each tail but the last something is due
pub more_due : (t : Tail) → (t ≡ tails.Over → ⊥) → 0 < due t
unfolding due
more_due (tails.Active l at) h = omega arith
more_due (tails.Dfu l at) h = omega arith
more_due (tails.State l at) h = omega arith
more_due tails.Over h = absurd (h refl)

-- what a text does: less is due, and what was to come is it and what is to come then
abbrev pub Went : Tail → Tail → List ℕ → Areas → Type 0
Went t t' text f = (0 < due t → due t' < due t) × (Room t → Room t' × (tail_text t f ≡ text ++ tail_text t' f))

module _ (l : Lengths) (f : Areas) (at m : ℕ) (t t' : Tail) (text : List ℕ) (next : m ≡ (at + 32) % 2 ^ 64) where
  pub active_more : t ≡ tails.Active l at → length f.active ≡ most_length
      → Moved f.active l.active at (tails.Active l m) (line_feed ∷ dfu ++ (space ∷ [])) (tails.Dfu l 0) t' text → Went t t' text f
  unfolding tail_text active_from due
  active_more e big moved =
      rw e (
        (λ h. moved_due f.active _ [] f l.active at m (3 + l.state + l.dfu) (tails.Active l) (tails.Dfu l 0) t' text big next moved
            (λ i. refl) (omega arith)),
        (λ fit. (
          moved_room f.active _ [] f l.active at m 0 (tails.Active l) (tails.Dfu l 0) t' text big next moved fit fit,
          moved_text f.active _ (dfu_from 0 (used l f)) f l.active at m 0 (tails.Active l) (tails.Dfu l 0) t' text big next moved
              fit.active (λ i. refl) refl,
        )),
      )

  pub dfu_more : t ≡ tails.Dfu l at → length f.dfu ≡ most_length
      → Moved f.dfu l.dfu at (tails.Dfu l m) (line_feed ∷ state ++ (space ∷ [])) (tails.State l 0) t' text → Went t t' text f
  unfolding tail_text dfu_from due
  dfu_more e big moved =
      rw e (
        (λ h. moved_due f.dfu _ [] f l.dfu at m (2 + l.state) (tails.Dfu l) (tails.State l 0) t' text big next moved
            (λ i. refl) (omega arith)),
        (λ fit. (
          moved_room f.dfu _ [] f l.dfu at m 0 (tails.Dfu l) (tails.State l 0) t' text big next moved fit fit,
          moved_text f.dfu _ (state_from 0 (used l f)) f l.dfu at m 0 (tails.Dfu l) (tails.State l 0) t' text big next moved
              fit.dfu (λ i. refl) refl,
        )),
      )

  pub state_more : t ≡ tails.State l at → length f.state ≡ most_length
      → Moved f.state l.state at (tails.State l m) (line_feed ∷ []) tails.Over t' text → Went t t' text f
  unfolding tail_text state_from due
  state_more e big moved =
      rw e (
        (λ h. moved_due f.state _ [] f l.state at m 1 (tails.State l) tails.Over t' text big next moved (λ i. refl) (omega arith)),
        (λ fit. (
          moved_room f.state _ [] f l.state at m 0 (tails.State l) tails.Over t' text big next moved fit tt,
          moved_text f.state _ [] f l.state at m 0 (tails.State l) tails.Over t' text big next moved fit.state (λ i. refl) refl,
        )),
      )

pub over_more : (t t' : Tail) (text : List ℕ) (f : Areas) → t ≡ tails.Over → t' ≡ tails.Over → text ≡ [] → Went t t' text f
unfolding tail_text due
over_more t t' text f e q r = rw (e, q, r) ((λ h. absurd (omega arith)), (λ fit. (tt, refl)))

-- ---- the input's end

module _ (m : Machine) (sound : Sound m) (counted : Counted m []) (held : m.held ≡ 0) where
  ended : (p : Phase) → m.bench.phase ≡ p → to_come m [] ≡ at_end (stage_of p m.bench.areas) (m.bench.lines + 1)
  unfolding to_come unread written lines closed split
  ended p e = rw (held, e) refl

  room : m.bench.lines + 1 < most_lines
  room = omega arith

  -- a line is missing
  module _ (text : List ℕ) (missed : text ≡ bad_line_text ((m.bench.lines + 1) % 2 ^ 64)) where
    lacks : (p : Phase) → m.bench.phase ≡ p → at_end (stage_of p m.bench.areas) (m.bench.lines + 1) ≡ bad_line_text (m.bench.lines + 1)
        → Unit {0} × (to_come m [] ≡ text ++ tail_text tails.Over m.bench.areas)
    unfolding tail_text
    lacks p e q =
        (tt, ended p e ∙ q ∙ sym (append-nil text ∙ missed ∙ ap bad_line_text (mod-eq_of_lt {n = m.bench.lines + 1} {m = 2 ^ 64} room)))

    pub lacks_line : (m.bench.phase ≡ phases.Sizes) ⊎ ((g : Geometry) × (m.bench.phase ≡ phases.Lengths g))
        → Unit {0} × (to_come m [] ≡ text ++ tail_text tails.Over m.bench.areas)
    unfolding stage_of at_end
    lacks_line (inl e) = lacks phases.Sizes e refl
    lacks_line (inr (g, e)) = lacks (phases.Lengths g) e refl

  areas_text_lem : (f : Flash) → areas_text f ≡ (active ++ (space ∷ [])) ++ active_from 0 f
  unfolding areas_text area_text active_from dfu_from state_from
  areas_text_lem f =
      ap (λ (x : List ℕ). active ++ (space ∷ x))
      (append_assoc (hex_of f.active) (line_feed ∷ []) (dfu ++ (space ∷ ((hex_of f.dfu ++ (line_feed ∷ [])) ++ area_text state f.state)))
      ∙ ap (λ (x : List ℕ). hex_of f.active ++ (line_feed ∷ dfu ++ (space ∷ x))) (append_assoc (hex_of f.dfu) (line_feed ∷ []) (area_text state f.state)))

  pub areas_come : (t : Setup) (tail : Tail) (text : List ℕ) → m.bench.phase ≡ phases.Commands t → tail ≡ tails.Active t.l 0 → text ≡ active ++ (space ∷ [])
      → Room tail × (to_come m [] ≡ text ++ tail_text tail m.bench.areas)
  unfolding stage_of at_end tail_text
  areas_come t tail text e q r =
      rw q (rw e at sound.fits, ended (phases.Commands t) e ∙ rw r (areas_text_lem (used t.l m.bench.areas)))

  pub nothing_comes : (tail : Tail) (text : List ℕ) → m.bench.phase ≡ phases.Over → tail ≡ tails.Over → text ≡ []
      → Room tail × (to_come m [] ≡ text ++ tail_text tail m.bench.areas)
  unfolding stage_of at_end tail_text
  nothing_comes tail text e q r = rw (q, r) (tt, ended phases.Over e)
