-- A line is read as a command just if it is the command's name, a space and its number. Assumes nothing.
use mathlib.Core.Path.{◌≡◌, refl, ap, sym, ◌∙◌}
use mathlib.Core.Bool.{Bool, true, false}
use mathlib.Core.List.{List, [], ◌∷◌}
use Rattle.std.proofs.Common.{Option, None, Some}
use Prim.Native.Nat.{ℕ}
use native.Mathlib.Omega.{arith}
use lib.ListN.{length, get_or}
use Rattle.state.specs.Choice.{pick}
use Rattle.numerals.specs.Text.{space, first, split, number, more, numbers, exactly}
use Rattle.numerals.proofs.Splits.{split_last}
use Rattle.numerals.proofs.Decimal.{number_written, written_number}
use Rattle.numerals.proofs.Grammar.{split_at, join, joined, more_by, exactly_some, written_plain}
use Rattle.lines.specs.declared.Command.{Command}
use Rattle.lines.specs.declared.Command.TheVariants.{Update, Booted, Boot}
use Rattle.lines.specs.Lines.{alike, update, booted, boot, named, ordered, command_of, command_line}
use Rattle.lines.specs.Grammar.{name_of, number_of, Ordered}
use Rattle.lines.proofs.Said.{alike_are}

named_by : (s t u : Bool) (w : List ℕ) (k : ℕ) (c : Command) → alike w update ≡ s → alike w booted ≡ t → alike w boot ≡ u
    → pick s (Some (Update k)) (pick t (Some (Booted k)) (pick u (Some (Boot k)) None)) ≡ Some c
    → (w ≡ name_of c) × (k ≡ number_of c)
unfolding pick
named_by true t u w k c a b d e = let q : Update k ≡ c = cc in rw (← q) (alike_are w update a, refl)
named_by false true u w k c a b d e = let q : Booted k ≡ c = cc in rw (← q) (alike_are w booted b, refl)
named_by false false true w k c a b d e = let q : Boot k ≡ c = cc in rw (← q) (alike_are w boot d, refl)
named_by false false false w k c a b d e = let z : ◌≡◌ {A = ℕ} 0 1 = cc in absurd (omega arith)

named_is : (w : List ℕ) (k : ℕ) (c : Command) → named w k ≡ Some c → (w ≡ name_of c) × (k ≡ number_of c)
unfolding named
named_is w k c e = named_by (alike w update) (alike w booted) (alike w boot) w k c refl refl refl e

-- one number is one word
one_word : (ws : List (List ℕ)) (ns : List ℕ) → numbers ws ≡ Some ns → length ns ≡ 1
    → (v : List ℕ) × (ws ≡ v ∷ []) × (number v ≡ Some (get_or ns 0 0))
unfolding numbers
one_word [] ns e l = let q : [] ≡ ns = cc in absurd (omega (arith, ap length q))
one_word (v ∷ []) ns e l =
    let m = more_by (number v) (Some []) ns e in
    (v, refl, rw m.4 m.2)
one_word (v ∷ u ∷ us) ns e l =
    let m = more_by (number v) (more (number u) (numbers us)) ns e in
    let o = more_by (number u) (numbers us) m.1 m.3 in
    absurd (omega (arith, l, ap length m.4, ap length o.4))

ordered_by : (w : List ℕ) (o : Option (List ℕ)) (c : Command) → ordered w o ≡ Some c
    → (ns : List ℕ) × (o ≡ Some ns) × (w ≡ name_of c) × (get_or ns 0 0 ≡ number_of c)
unfolding ordered
ordered_by w None c e = let z : ◌≡◌ {A = ℕ} 0 1 = cc in absurd (omega arith)
ordered_by w (Some ns) c e = let n = named_is w (get_or ns 0 0) c e in (ns, refl, n.0, n.1)

words_ordered : (ws : List (List ℕ)) (c : Command) → command_of ws ≡ Some c
    → (v : List ℕ) × (ws ≡ name_of c ∷ v ∷ []) × (number v ≡ Some (number_of c))
unfolding command_of
words_ordered [] c e = let z : ◌≡◌ {A = ℕ} 0 1 = cc in absurd (omega arith)
words_ordered (w ∷ ws) c e =
    let o = ordered_by w (exactly 1 (numbers ws)) c e in
    let x = exactly_some 1 (numbers ws) o.0 o.1 in
    let v = one_word ws o.0 x.0 x.1 in
    (v.0, ap (λ t. t ∷ ws) o.2 ∙ ap (λ t. name_of c ∷ t) v.1, v.2 ∙ ap Some o.3)

pub command_ordered : (line : List ℕ) (c : Command) → command_line line ≡ Some c → Ordered line c
unfolding command_line join
command_ordered line c e =
    let o = words_ordered (split space line) c e in
    record {
      word = o.0;
      text = sym (joined space line).text ∙ ap (join space) o.1;
      number = number_written o.0 (number_of c) o.2;
    }

-- ---- and back

name_plain : (c : Command) → first space (name_of c) ≡ length (name_of c)
unfolding first pick
name_plain (Update k) = refl
name_plain (Booted k) = refl
name_plain (Boot k) = refl

named_so : (c : Command) → named (name_of c) (number_of c) ≡ Some c
unfolding named alike pick
named_so (Update k) = refl
named_so (Booted k) = refl
named_so (Boot k) = refl

pub ordered_command : (line : List ℕ) (c : Command) → Ordered line c → command_line line ≡ Some c
unfolding command_line command_of ordered numbers more exactly pick
ordered_command line c o =
    rw (
      o.text,
      split_at space (name_of c) o.word (name_plain c),
      split_last space o.word (written_plain space o.word (number_of c) (omega arith) o.number),
      ← written_number o.word (number_of c) o.number,
    )
    (named_so c)
