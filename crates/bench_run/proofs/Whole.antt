-- However the input is cut into pieces, the texts joined are its output: what was to come is each text and what is to come then.
-- Assumes nothing.
use mathlib.Core.Path.{◌≡◌, refl, ap, sym, ◌∙◌}
use mathlib.Core.List.{List, [], ◌++◌, append_assoc}
use Prim.Native.Nat.{ℕ, ◌+◌}
use native.Mathlib.Omega.{arith}
use lib.ListN.{length, drop, drop_of_length-le}
use Rattle.numerals.specs.Text.{first as first_of}
use Rattle.lines.specs.Lines.{lines}
use Rattle.bench_output.specs.Output.{first, written, output}
use Rattle.bench_lines.specs.declared.Phase.{Phase}
use Rattle.bench_lines.specs.declared.Phase.TheVariants as phases
use Rattle.bench_lines.specs.declared.Machine.{Machine}
use Rattle.bench_lines.specs.Machine.{stage_of, unread, to_come, Sound, Counted, Gone}
use Rattle.bench_lines.proofs.Steps.{written_over}
use Rattle.bench_areas.specs.declared.Tail.{Tail}
use Rattle.bench_areas.specs.Tail.{Room, tail_text}
use Rattle.bench_run.specs.Runs.{Shown, Fed, Run, Starts, joined, Whole}
use Rattle.bench_run.specs.Runs as runs

-- one step after another
pub then : (m m' m'' : Machine) (i x i' y i'' : List ℕ) → Gone m i x m' i' → Gone m' i' y m'' i'' → Gone m i (x ++ y) m'' i''
then m m' m'' i x i' y i'' g h =
    record {
      sound = h.sound;
      counted = h.counted;
      says = g.says ∙ ap (λ (t : List ℕ). x ++ t) h.says ∙ sym (append_assoc x y (to_come m'' i''));
    }

pub still : (m : Machine) (i i' : List ℕ) → i ≡ i' → Sound m → Counted m i → Gone m i [] m i'
still m i i' e s c = record { sound = s; counted = rw e at c; says = ap (to_come m) e }

shown : (m : Machine) (t : Tail) (xs : List ℕ) → Shown m t xs → Room t → tail_text t m.bench.areas ≡ xs
unfolding tail_text
shown m t xs runs.Shown.done r = refl
shown m t xs (runs.Shown.text _ t' x ys go next) r =
    let g = go r in
    g.1 ∙ ap (λ (y : List ℕ). x ++ y) (shown m t' ys next g.0)

fed : (p rest : List ℕ) (m : Machine) (at : ℕ) (xs : List ℕ) (m' : Machine) → Fed p m at xs m' → Sound m → Counted m (drop at p ++ rest)
    → Gone m (drop at p ++ rest) xs m' rest
fed p rest m at xs m' (runs.Fed.used _ _ h) s c = still m _ rest (ap (λ (x : List ℕ). x ++ rest) (drop_of_length-le p h)) s c
fed p rest m at xs m'' (runs.Fed.text _ m' _ _ at' x ys go next) s c =
    let g = go rest s c in
    then m m' m'' _ x _ ys rest g (fed p rest m' at' ys m'' next g.sound g.counted)

pub nothing : (m : Machine) (i : List ℕ) → m.bench.phase ≡ phases.Over → to_come m i ≡ []
unfolding to_come stage_of
nothing m i e =
    let n = m.bench.lines + 1 in
    let ls = lines (unread m i) in
    ap (λ (p : Phase). written (stage_of p m.bench.areas) n ls) e ∙ written_over n ls

run : (m : Machine) (ps : List (List ℕ)) (xs : List ℕ) → Run m ps xs → Sound m → Counted m (joined ps) → to_come m (joined ps) ≡ xs
unfolding joined
run m ps xs (runs.Run.over _ _ e) s c = nothing m (joined ps) e
run m ps xs (runs.Run.ends _ m' x y z t last close show) s c =
    let g = last.0 s c in
    let k = close g.sound g.counted (last.1 s c) in
    g.says ∙ ap (λ (t : List ℕ). x ++ t) (k.1 ∙ ap (λ (t : List ℕ). y ++ t) (shown m' t z show k.0))
run m ps xs (runs.Run.piece _ m' p qs x y feed next) s c =
    let g = fed p (joined qs) m 0 x m' feed s c in
    g.says ∙ ap (λ (t : List ℕ). x ++ t) (run m' qs y next g.sound g.counted)

module _ (m : Machine) (start : Starts m) where
  pub starts_sound : Sound m
  unfolding first_of
  starts_sound =
      record {
        full = start.room;
        room = omega (arith, start.none);
        plain = rw start.none refl;
        fits = rw start.phase tt;
      }

  pub starts_left : (i : List ℕ) → unread m i ≡ i
  unfolding unread
  starts_left i = rw start.none refl

  pub starts_all : (i : List ℕ) → to_come m i ≡ output i
  unfolding to_come stage_of output
  starts_all i =
      ap (λ (p : Phase). written (stage_of p m.bench.areas) (m.bench.lines + 1) (lines (unread m i))) start.phase
      ∙ ap (λ (n : ℕ). written first (n + 1) (lines (unread m i))) start.lines
      ∙ ap (λ (x : List ℕ). written first 1 (lines x)) (starts_left i)

pub whole : Whole
whole m ps texts start few r =
    let c : Counted m (joined ps) = omega (arith, start.lines, ap length (starts_left m start (joined ps))) in
    sym (run m ps texts r (starts_sound m start) c) ∙ starts_all m start (joined ps)
