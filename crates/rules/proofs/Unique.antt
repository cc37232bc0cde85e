-- The definitions leave no choice: any two results that they allow for one call, flash and budget are equal. Each public
-- function is one `Call`, so this is the theorem for all of them. Assumes nothing.
use mathlib.Core.Path.{◌≡◌, refl, ap, ◌∙◌, sym}
use Prim.Native.Nat.{ℕ}
use lib.Dec.{eqb}
use Rattle.state.specs.Choice.{pick}
use Rattle.geometry.specs.declared.Refusal.TheVariants.{Limit, Page, Area, StateArea, BadState, Range, Checksum}
use Rattle.geometry.specs.Refusals.{number}
use Rattle.geometry.proofs.Unique.{refusal_of}
use Rattle.mem_flash.specs.Flash.{Flash}
use Rattle.std.specs.Prelude.{Ok, Err}
use Rattle.rules.specs.declared.Stop.TheVariants.{Refused, Cut}
use Rattle.rules.specs.Calls.{Answer, Report, Call, reported, Did}

-- what a report says can be read back
answer_of : Report → Answer
answer_of t =
    pick (eqb t.number 7) (Err (Cut t.count))
    (pick (eqb t.number 0) (Ok (record { state = t.state; count = t.count })) (Err (Refused (refusal_of t.number))))

back : (r : Answer) → answer_of (reported r) ≡ r
unfolding answer_of refusal_of reported number pick
back (Ok d) = refl
back (Err (Refused Limit)) = refl
back (Err (Refused Page)) = refl
back (Err (Refused Area)) = refl
back (Err (Refused StateArea)) = refl
back (Err (Refused BadState)) = refl
back (Err (Refused Range)) = refl
back (Err (Refused Checksum)) = refl
back (Err (Cut n)) = refl

-- so two answers that tell the same are the same
pub answer_unique : (q r : Answer) → reported q ≡ reported r → q ≡ r
answer_unique q r e = sym (back q) ∙ ap answer_of e ∙ back r

pub unique : (c : Call) (k : ℕ) (f f₁ f₂ : Flash) (q r : Answer) → Did c k f f₁ q → Did c k f f₂ r → (f₁ ≡ f₂) × (q ≡ r)
unique c k f f₁ f₂ q r d e = (d.flash ∙ sym e.flash, answer_unique q r (d.answer ∙ sym e.answer))
