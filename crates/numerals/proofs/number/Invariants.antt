use Rattle.std.proofs.Common.{◌≡◌, ◌<◌, ◌≤◌, length, drop}
use Rattle.numerals.specs.Text.{digits, value, most_number}
use Rattle.numerals.proofs.number.Given as goal

abbrev pub invariant-loop-b : goal.invariant-loop-b
invariant-loop-b l =
    (0 < length l.word)
    × (l.n ≤ most_number)
    × (digits l.word ≡ digits (drop l.b-index l.word))
    × (value 0 l.word ≡ value l.n (drop l.b-index l.word))
