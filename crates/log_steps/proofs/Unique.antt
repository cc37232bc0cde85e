-- Any two answers that the contract of `read_swap` allows for one log are equal. Assumes nothing.
use mathlib.Core.Path.{refl, sym, ◌∙◌}
use Rattle.state.specs.OneResult.{OneResult}
use Rattle.log_steps.proofs.read_swap.Kinds as kinds
use Rattle.log_steps.proofs.read_swap.Reads as read_swap

pub read_swap_unique : OneResult kinds.ps kinds.r read_swap.Post
read_swap_unique κs a x y v w p q = (p ∙ sym q, refl)
