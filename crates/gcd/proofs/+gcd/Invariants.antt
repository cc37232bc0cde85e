use Rattle.gcd.proofs.+gcd.Given as goal

-- the second number falls: the call has the remainder there
abbrev pub decreases-gcd : goal.decreases-gcd
decreases-gcd l = l.b
