use mathlib.Core.Path.{refl, ◌∙◌}
use native.Mathlib.Omega.{arith}
use Rattle.mem_flash.proofs.Runs.{cut_of, unit_on, unit_cut, units_none, erase_nothing, erase_of_units}
use Rattle.mem_flash.proofs.erase.Goals as goal

pub returns-in_default : goal.returns-in_default
returns-in_default c = λ a f. erase_nothing _ _ _ _ _ _ _ (omega (arith, c.in_default.ensures))

pub returns-in_err-still : goal.returns-in_err-still
returns-in_err-still c =
    λ a f.
    rw (cut_of _ c.from_residual.ensures.0)
    (erase_of_units _ _ _ _ _ _ _ _ _ _ _ c.in-Some.ensures.1 c.checked_div.ensures c.unwrap_or-count.ensures
    (c.loop-i.invariant a f ∙ unit_cut _ _ _ _ _ _ _ _ _ _ c.erase_unit.ensures refl c.loop-i-test.true c.in_err-still.was a f))

pub loop-i-preserved : goal.loop-i-preserved
loop-i-preserved c =
    λ a f.
    c.loop-i.invariant a f
    ∙ unit_on _ _ _ _ _ _ _ _ _ _ c.erase_unit.ensures (omega arith) c.loop-i-test.true _ c.in_ok-still.was a f

pub returns : goal.returns
returns c =
    λ a f.
    erase_of_units _ _ _ _ _ _ _ _ _ _ _ c.in-Some.ensures.1 c.checked_div.ensures c.unwrap_or-count.ensures
    (c.loop-i.invariant a f ∙ units_none _ _ _ _ _ _ (omega (arith, c.loop-i-test.false)) a f)
