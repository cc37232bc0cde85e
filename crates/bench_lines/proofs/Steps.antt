-- Laws of the machine: what a line does, and each way in which a piece of the input is taken. Assumes nothing.
use Rattle.std.proofs.Common.{◌≡◌, ℕ, zero, suc, ◌+◌, ◌-◌, ◌<◌, ◌≤◌, min, Bool, true, false, leb, List, [], ◌∷◌, ◌++◌, length, get_or, take, drop, sym, refl, ap, ◌∙◌, append_assoc, append-nil, arith, length-append, length-drop, length-take-le, le-leb, leb-true}
use Rattle.std.specs.Prelude.{Option, Some, None}
use lib.Seq.{drop-length, length-paste}
use borrow.Author.Tests.{lt-leb}
use Rattle.state.specs.Choice.{pick}
use Rattle.geometry.specs.declared.Geometry.{Geometry}
use Rattle.geometry.specs.Refusals.{verdict}
use Rattle.mem_flash.specs.Flash.{Flash}
use Rattle.rules.specs.Calls.{Answer}
use Rattle.rules.specs.Calls.{reported}
use Rattle.numerals.specs.Text.{first as first_of, split}
use Rattle.numerals.proofs.Splits.{first_le}
use Rattle.lines.specs.declared.Lengths.{Lengths}
use Rattle.lines.specs.declared.Command.{Command}
use Rattle.lines.specs.declared.Taken.{Taken}
use Rattle.lines.specs.declared.Taken.TheVariants as taken
use Rattle.lines.specs.Lines.{line_feed, closed, lines, most_bytes, most_length, short, taken_at, held_then}
use Rattle.lines.specs.Lines.{sizes_line, lengths_line, command_line}
use Rattle.lines.specs.Lines.{lengths_of}
use Rattle.lines.specs.Grammar.{Plain, Cut, Says, number_of}
use Rattle.lines.specs.Grammar as grammar
use Rattle.lines.proofs.Cuts.{lines_cut, lines_last}
use Rattle.lines.proofs.Gathered.{taken_line, Told}
use Rattle.lines.proofs.Gathered.{told as told_of}
use Rattle.lines.proofs.Gathered as told
use Rattle.lines.proofs.Pieces.{pieces, first_on}
use Rattle.answer_text.specs.Answers.{bad_line_text, command_text}
use Rattle.bench_images.specs.declared.Setup.{Setup}
use Rattle.bench_images.specs.declared.Areas.{Areas}
use Rattle.bench_images.specs.Images.{used, Fit, Begun, Obeyed, bench_call}
use Rattle.bench_images.proofs.Laws.{start_used}
use Rattle.bench_output.specs.Output.{Stage, Step, step, first, second, command, over, bad, on_sizes, on_lengths, called, on_command, within, on_line, at_end, written}
use Rattle.bench_lines.specs.declared.Phase.{Phase}
use Rattle.bench_lines.specs.declared.Phase.TheVariants as phases
use Rattle.bench_lines.specs.declared.Bench.{Bench}
use Rattle.bench_lines.specs.declared.Machine.{Machine}
use Rattle.bench_lines.specs.Machine.{stage_of, most_lines, Fits, Passed, Stepped, unread, to_come, Sound, Counted, Gone, Goes}

-- ---- a line

pub stepped : (line : Step) (b b' r : Bench) (p : Phase) (text : List ℕ) → Passed b' p r → b'.lines ≡ b.lines → b.lines + 1 < most_lines → Fits p
    → line ≡ step text (stage_of p b'.areas) → Stepped line b r text
stepped line b b' r p text passed same room f e =
    record { says = e ∙ rw (passed.phase, passed.areas) refl; lines = passed.lines (rw same room) ∙ rw same refl; fits = rw passed.phase f }

-- the lengths that a line says fit
short_by : (t : Bool) (n i : ℕ) (ns : List ℕ) → leb n most_length ≡ t → ((j : ℕ) → short ns ≡ true → get_or ns j 0 ≤ most_length)
    → pick t (short ns) false ≡ true → get_or (n ∷ ns) i 0 ≤ most_length
unfolding pick
short_by true n zero ns e ih h = leb-true n most_length e
short_by true n (suc i) ns e ih h = ih i h
short_by false n i ns e ih h = let z : ◌≡◌ {A = ℕ} 0 1 = cc in absurd (omega arith)

short_at : (ns : List ℕ) (i : ℕ) → short ns ≡ true → get_or ns i 0 ≤ most_length
unfolding short
short_at [] i h = omega arith
short_at (n ∷ ns) i h = short_by (leb n most_length) n i ns refl (short_at ns) h

abbrev three : List ℕ → Lengths
three ns = record { active = get_or ns 0 0; dfu = get_or ns 1 0; state = get_or ns 2 0 }

fit_by : (t : Bool) (ns : List ℕ) (l : Lengths) → short ns ≡ t → pick t (Some (three ns)) None ≡ Some l → Fit l
unfolding pick
fit_by true ns l e h =
    let q : three ns ≡ l = cc in
    let f : Fit (three ns) = record { active = short_at ns 0 e; dfu = short_at ns 1 e; state = short_at ns 2 e } in
    rw q at f
fit_by false ns l e h = absurd cc

fit_of : (o : Option (List ℕ)) (l : Lengths) → lengths_of o ≡ Some l → Fit l
unfolding lengths_of
fit_of None l h = absurd cc
fit_of (Some ns) l h = fit_by _ ns l refl h

pub lengths_fit : (line : List ℕ) (l : Lengths) → lengths_line line ≡ Some l → Fit l
unfolding lengths_line
lengths_fit line l h = fit_of _ l h

-- what each step says

pub says_bad : (n : ℕ) (f : Areas) (text : List ℕ) → text ≡ bad_line_text n → bad n ≡ step text (stage_of phases.Over f)
unfolding bad stage_of
says_bad n f text e = rw e refl

pub says_sizes : (n : ℕ) (g : Geometry) (f : Areas) (text : List ℕ) → text ≡ [] → on_sizes n (Some g) ≡ step text (stage_of (phases.Lengths g) f)
unfolding on_sizes stage_of
says_sizes n g f text e = rw e refl

pub says_lengths : (n : ℕ) (g : Geometry) (l : Lengths) (t : Setup) (f : Areas) (text : List ℕ) → (t.g ≡ g) × (t.l ≡ l) × Begun g l f t.verdict → Fit l
    → text ≡ [] → on_lengths n g (Some l) ≡ step text (stage_of (phases.Commands t) f)
unfolding on_lengths stage_of
says_lengths n g l t f text begun fit e = rw (e, begun.0, begun.1, begun.2.judged, start_used g l f t.verdict begun.2 fit) refl

pub says_command : (n : ℕ) (t : Setup) (c : Command) (answer : Answer) (f f' : Areas) (text : List ℕ)
    → Obeyed (bench_call t.g (verdict t.verdict) c (used t.l f)) (number_of c) t.l f f' answer → text ≡ command_text c (reported answer)
    → on_command n t.g (verdict t.verdict) (used t.l f) (Some c) ≡ step text (stage_of (phases.Commands t) f')
unfolding on_command called stage_of
says_command n t c answer f f' text obeyed e = rw (e, obeyed.did.answer, obeyed.did.flash) refl

pub says_nothing : (f : Areas) (text : List ℕ) → text ≡ [] → step [] over ≡ step text (stage_of phases.Over f)
unfolding stage_of
says_nothing f text e = rw e refl

pub no_sizes : (n : ℕ) (o : Option Geometry) → None ≡ o → on_sizes n o ≡ bad n
unfolding on_sizes
no_sizes n o e = rw (← e) refl

pub no_lengths : (n : ℕ) (g : Geometry) (o : Option Lengths) → None ≡ o → on_lengths n g o ≡ bad n
unfolding on_lengths
no_lengths n g o e = rw (← e) refl

pub no_command : (n : ℕ) (g : Geometry) (v : ℕ) (f : Flash) (o : Option Command) → None ≡ o → on_command n g v f o ≡ bad n
unfolding on_command
no_command n g v f o e = rw (← e) refl

-- ---- which line it is

within_short : (n : ℕ) (line : List ℕ) (s : Step) → length line ≤ most_bytes → within n line s ≡ s
unfolding within pick
within_short n line s h = rw (le-leb _ _ h) refl

within_long : (n : ℕ) (line : List ℕ) (s : Step) → most_bytes < length line → within n line s ≡ bad n
unfolding within pick
within_long n line s h = rw (lt-leb _ _ h) refl

pub same_step : {x y : Step} {b r : Bench} {text : List ℕ} → x ≡ y → Stepped y b r text → Stepped x b r text
same_step e h = record { says = e ∙ h.says; lines = h.lines; fits = h.fits }

-- a line's step by the phase
pub by_phase : {b r : Bench} {text : List ℕ} {p : Phase} {x : Step} (line : List ℕ) → b.phase ≡ p → on_line (stage_of p b.areas) (b.lines + 1) line ≡ x
    → Stepped x b r text → Stepped (on_line (stage_of b.phase b.areas) (b.lines + 1) line) b r text
by_phase {b = b} line e q h = same_step (ap (λ (i : Phase). on_line (stage_of i b.areas) (b.lines + 1) line) e ∙ q) h

pub fits_in : {p : Phase} {t : Setup} → p ≡ phases.Commands t → Fits p → Fit t.l
fits_in q g = rw q at g

module _ (f : Areas) (n : ℕ) (line : List ℕ) where
  module _ (short : length line ≤ most_bytes) where
    pub first_does : on_line (stage_of phases.Sizes f) n line ≡ on_sizes n (sizes_line line)
    unfolding stage_of on_line
    first_does = within_short n line _ short

    pub second_does : (g : Geometry) → on_line (stage_of (phases.Lengths g) f) n line ≡ on_lengths n g (lengths_line line)
    unfolding stage_of on_line
    second_does g = within_short n line _ short

    pub further_does : (t : Setup) → on_line (stage_of (phases.Commands t) f) n line
        ≡ on_command n t.g (verdict t.verdict) (used t.l f) (command_line line)
    unfolding stage_of on_line
    further_does t = within_short n line _ short

  pub over_does : on_line (stage_of phases.Over f) n line ≡ step [] over
  unfolding stage_of on_line
  over_does = refl

  pub long_does : (p : Phase) → (p ≡ phases.Over → ⊥) → most_bytes < length line → on_line (stage_of p f) n line ≡ bad n
  unfolding stage_of on_line
  long_does phases.Sizes other long = within_long n line _ long
  long_does (phases.Lengths g) other long = within_long n line _ long
  long_does (phases.Commands t) other long = within_long n line _ long
  long_does phases.Over other long = absurd (other refl)

-- ---- the input, piece by piece

pub written_over : (n : ℕ) (ls : List (List ℕ)) → written over n ls ≡ []
unfolding written on_line at_end
written_over n [] = refl
written_over n (l ∷ ls) = written_over (n + 1) ls

-- a machine that stepped is sound
sound_after : (line : Step) (m m' : Machine) (text : List ℕ) → length m'.line ≡ most_bytes → m'.held ≡ 0 → Stepped line m.bench m'.bench text
    → Sound m'
unfolding first_of
sound_after line m m' text full nil h = record { full = full; room = omega arith; plain = rw nil refl; fits = h.fits }

-- a line is passed, and what follows it is left
passed : (m m' : Machine) (input rest l text : List ℕ) → lines (take m.held m.line ++ input) ≡ l ∷ lines rest
    → length rest < length (take m.held m.line ++ input) → length m'.line ≡ most_bytes → m'.held ≡ 0 → Counted m input
    → (m.bench.lines + 1 < most_lines → Stepped (on_line (stage_of m.bench.phase m.bench.areas) (m.bench.lines + 1) l) m.bench m'.bench text)
    → Gone m input text m' rest
unfolding unread to_come written
passed m m' input rest l text e less full nil counted go =
    let h = go (omega arith) in
    record {
      sound = sound_after _ m m' text full nil h;
      counted = rw (nil, h.lines) (omega arith);
      says = rw (e, h.says, nil, h.lines) refl;
    }

-- after a line that is too long nothing comes
long_over : (st : Stage) (n : ℕ) (line : List ℕ) → most_bytes < length line → (on_line st n line).next ≡ over
unfolding on_line within bad pick
long_over first n line h = rw (lt-leb _ _ h) refl
long_over (second g) n line h = rw (lt-leb _ _ h) refl
long_over (command g v f) n line h = rw (lt-leb _ _ h) refl
long_over over n line h = refl

-- where the first line feed comes late the first line is long
data LongFirst : List (List ℕ) → Type 0 where
  long_first_line : {l : List ℕ} {ls : List (List ℕ)} → most_bytes < length l → LongFirst (l ∷ ls)

first_here : (l rest : List ℕ) → Plain l → first_of line_feed (l ++ (line_feed ∷ rest)) ≡ length l
unfolding first_of pick
first_here l rest p = first_on line_feed l (line_feed ∷ rest) p ∙ omega arith

cut_long : (input : List ℕ) (ls : List (List ℕ)) → Cut input ls → most_bytes < first_of line_feed input → LongFirst ls
unfolding first_of
cut_long input ls grammar.Cut.none h = absurd (omega arith)
cut_long input ls (grammar.Cut.last {b = b} {bs = bs} p) h = long_first_line {l = b ∷ bs} (omega (arith, p))
cut_long input ls (grammar.Cut.next {l = l} {rest = rest} p c) h = long_first_line {l = l} (omega (arith, first_here l rest p))

lines_long : (input : List ℕ) → most_bytes < first_of line_feed input → LongFirst (lines input)
lines_long input h = cut_long input (lines input) (lines_cut input) h

-- such a line is bad, and nothing of what is left is looked at
long_gone : (m m' : Machine) (input rest text : List ℕ) → length rest < length (take m.held m.line ++ input) → length m'.line ≡ most_bytes
    → m'.held ≡ 0
    → (m.bench.lines + 1 < most_lines → (line : List ℕ) → most_bytes < length line
    → Stepped (on_line (stage_of m.bench.phase m.bench.areas) (m.bench.lines + 1) line) m.bench m'.bench text)
    → Counted m input → (ls : List (List ℕ)) → lines (take m.held m.line ++ input) ≡ ls → LongFirst ls
    → Gone m input text m' rest
unfolding unread to_come written
long_gone m m' input rest text less full nil go counted ls e (long_first_line {l = l} {ls = ms} h) =
    let g = go (omega arith) l h in
    let no : stage_of m'.bench.phase m'.bench.areas ≡ over =
    sym (ap (λ (x : Step). x.next) g.says) ∙ long_over (stage_of m.bench.phase m.bench.areas) (m.bench.lines + 1) l h in
    record {
      sound = sound_after _ m m' text full nil g;
      counted = rw (nil, g.lines) (omega arith);
      says = rw (e, g.says, no) (ap (λ (x : List ℕ). text ++ x)
          (written_over (m.bench.lines + 1 + 1) ms ∙ sym (written_over (m'.bench.lines + 1) (lines (unread m' rest)))));
    }

-- of a part no more is held than there is room for
part_room : (most n at k len m : ℕ) (t : Taken) → Told most n at k len t → t ≡ taken.Part m → m ≤ most
part_room most n at k len m t (told.line h l) e = let z : ◌≡◌ {A = ℕ} 0 1 = cc in absurd (omega arith)
part_room most n at k len m t (told.part h l) e = let q : n + k ≡ m = cc in omega arith
part_room most n at k len m t (told.long h) e = let z : ◌≡◌ {A = ℕ} 0 1 = cc in absurd (omega arith)

module _ (m m' : Machine) (line' piece : List ℕ) (at : ℕ) (t : Taken)
    (is : t ≡ taken_at most_bytes m.held piece at) (then : line' ≡ held_then most_bytes m.line m.held piece at) where
  says_of : Sound m → Says m.line piece m.held at t
  says_of sound =
      rw (is, ← sound.full) (pieces m.line piece m.held at (omega (arith, sound.room, sound.full)) sound.plain)

  line_is : Sound m → line' ≡ held_then (length m.line) m.line m.held piece at
  line_is sound = then ∙ rw sound.full refl

  line_full : Sound m → length line' ≡ most_bytes
  unfolding held_then
  line_full sound =
      ap length then
      ∙ length-paste m.line m.held (drop at piece) (min (first_of line_feed (drop at piece)) (most_bytes - m.held))
      (omega (arith, sound.room, sound.full)) (omega (arith, first_le line_feed (drop at piece)))
      ∙ sound.full

  pub goes_line : (n e : ℕ) (text : List ℕ) → t ≡ taken.Line n e → m'.line ≡ line' → m'.held ≡ 0
      → (m.bench.lines + 1 < most_lines → Fits m.bench.phase → n ≤ most_bytes
      → Stepped (on_line (stage_of m.bench.phase m.bench.areas) (m.bench.lines + 1) (take n line')) m.bench m'.bench text)
      → (rest : List ℕ) → Goes m (drop at piece ++ rest) text m' (drop e piece ++ rest)
  goes_line n e text q same nil go rest sound counted =
      let w = taken_line most_bytes m.held at n e piece t is q in
      let l : lines (take m.held m.line ++ (drop at piece ++ rest)) ≡ take n line' ∷ lines (drop e piece ++ rest) =
      rw (← append_assoc (take m.held m.line) (drop at piece) rest, line_is sound) ((rw q at (says_of sound)) rest) in
      passed m m' (drop at piece ++ rest) (drop e piece ++ rest) (take n line') text l
      (omega (
        arith,
        w,
        length-append (take m.held m.line) (drop at piece ++ rest),
        length-append (drop at piece) rest,
        length-append (drop e piece) rest,
        length-drop at piece,
        length-drop e piece,
      ))
      (ap length same ∙ line_full sound) nil counted (λ room. go room sound.fits w.0)

  pub goes_part : (n : ℕ) → t ≡ taken.Part n
      → (rest : List ℕ) → Goes m (drop at piece ++ rest) [] (record { bench = m.bench; line = line'; held = n }) (drop (length piece) piece ++ rest)
  unfolding unread to_come
  goes_part n q rest sound counted =
      let p = rw q at (says_of sound) in
      let b : n ≤ most_bytes = part_room most_bytes m.held at _ (length piece) n _ (told_of most_bytes m.held at piece) (sym is ∙ q) in
      let x : take n line' ++ (drop (length piece) piece ++ rest) ≡ take m.held m.line ++ (drop at piece ++ rest) =
      rw (drop-length piece, line_is sound, p.0) (append_assoc (take m.held m.line) (drop at piece) rest) in
      record {
        sound = record { full = line_full sound; room = b; plain = rw (line_is sound) p.1; fits = sound.fits };
        counted = rw x counted;
        says = rw x refl;
      }

  pub goes_long : (text : List ℕ) → t ≡ taken.Long → m'.line ≡ line' → m'.held ≡ 0
      → (m.bench.lines + 1 < most_lines → (line : List ℕ) → most_bytes < length line
      → Stepped (on_line (stage_of m.bench.phase m.bench.areas) (m.bench.lines + 1) line) m.bench m'.bench text)
      → (rest : List ℕ) → Goes m (drop at piece ++ rest) text m' (drop (length piece) piece ++ rest)
  goes_long text q same nil go rest sound counted =
      let p = rw q at (says_of sound) in
      let z : most_bytes < first_of line_feed (take m.held m.line ++ (drop at piece ++ rest)) =
      rw (← append_assoc (take m.held m.line) (drop at piece) rest) (omega (arith, p rest, sound.full)) in
      let more : 1 ≤ length (take m.held m.line ++ drop at piece) =
      omega (
        arith,
        p [],
        sound.full,
        first_le line_feed ((take m.held m.line ++ drop at piece) ++ []),
        length-append (take m.held m.line ++ drop at piece) [],
      ) in
      long_gone m m' (drop at piece ++ rest) (drop (length piece) piece ++ rest) text
      (omega (
        arith,
        length-append (take m.held m.line ++ drop at piece) rest,
        ap length (append_assoc (take m.held m.line) (drop at piece) rest),
        ap (λ (x : List ℕ). length (x ++ rest)) (drop-length piece),
      ))
      (ap length same ∙ line_full sound) nil go counted _ refl (lines_long _ z)

-- ---- the input's end

lines_one : (xs : List ℕ) → Plain xs → 0 < length xs → lines (xs ++ []) ≡ xs ∷ lines []
unfolding lines closed split
lines_one [] p h = absurd (omega arith)
lines_one (x ∷ xs) p h = rw (append-nil xs) (lines_last x xs p)

pub goes_last : (m m' : Machine) (text : List ℕ) → 0 < m.held → m'.line ≡ m.line → m'.held ≡ 0
    → (m.bench.lines + 1 < most_lines → Fits m.bench.phase → m.held ≤ most_bytes
    → Stepped (on_line (stage_of m.bench.phase m.bench.areas) (m.bench.lines + 1) (take m.held m.line)) m.bench m'.bench text)
    → Goes m [] text m' []
goes_last m m' text pos same nil go sound counted =
    let n : length (take m.held m.line) ≡ m.held = length-take-le m.held m.line (omega (arith, sound.room, sound.full)) in
    passed m m' [] [] (take m.held m.line) text
    (lines_one (take m.held m.line) sound.plain (omega arith))
    (omega (arith, length-append (take m.held m.line) [])) (ap length same ∙ sound.full) nil counted
    (λ room. go room sound.fits sound.room)

pub goes_still : (m : Machine) → Goes m [] [] m []
goes_still m sound counted = record { sound = sound; counted = counted; says = refl }
