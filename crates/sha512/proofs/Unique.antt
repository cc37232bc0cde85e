-- Any two results that a contract of this crate allows for one input are equal, for every stream, also one to which nothing can have been
-- added. Assumes nothing.
use Rattle.std.proofs.Common.{◌≡◌, ℕ, Bool, List, sym, refl, ap, ◌∙◌}
use mathlib.Core.Bool.{false≢true}
use Rattle.std.specs.Result.{is_ok}
use Rattle.std.specs.declared.result.Result.{Result}
use Rattle.std.specs.declared.result.Result.TheVariants.{Ok, Err}
use Rattle.sha512.specs.declared.WrongLength.{WrongLength}
use Rattle.state.specs.OneResult.{OneResult}
use Rattle.state.specs.Choice.{pick}
use Rattle.sha512.specs.declared.Stream.{Stream}
use Rattle.sha512.specs.Streams.{finished, Finished}
use Rattle.sha512.proofs.begin.Kinds as begin_kinds
use Rattle.sha512.proofs.begin.Reads as begin
use Rattle.sha512.proofs.add.Kinds as add_kinds
use Rattle.sha512.proofs.add.Reads as add
use Rattle.sha512.proofs.finish.Kinds as finish_kinds
use Rattle.sha512.proofs.finish.Reads as finish

pub begin_unique : OneResult begin_kinds.ps begin_kinds.r begin.Post
begin_unique κs a x y v w p q = (p ∙ sym q, refl)

pub add_unique : OneResult add_kinds.ps add_kinds.r add.Post
add_unique κs a x y v w p q = (p.exact ∙ sym q.exact, refl)

pub finished_unique : {s : Stream} {before v w : List ℕ} {x y : Bool} → Finished s before x v → Finished s before y w → (x ≡ y) × (v ≡ w)
finished_unique {s = s} {before = before} p q =
    let said = p.fits ∙ sym q.fits in
    (said, p.exact ∙ ap (λ (t : Bool). pick t (finished s) before) said ∙ sym q.exact)

-- a refusal says no more than that it is one
told : (x y : Result (Unit {0}) WrongLength) → is_ok x ≡ is_ok y → x ≡ y
told (Ok v) (Ok w) e = refl
told (Err v) (Err w) e = refl
told (Ok v) (Err w) e = absurd (false≢true (sym e))
told (Err v) (Ok w) e = absurd (false≢true e)

pub finish_unique : OneResult finish_kinds.ps finish_kinds.r finish.Post
finish_unique κs a x y v w p q = let e = finished_unique p q in (told x y e.0, ap (λ (l : List ℕ). (tt, (l, tt))) e.1)
