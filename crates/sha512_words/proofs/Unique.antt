-- Any two results that a contract of this crate allows for one input are equal: each is an equation. Assumes nothing.
use Rattle.std.proofs.Common.{sym, refl, ◌∙◌}
use Rattle.state.specs.OneResult.{OneResult}
use Rattle.sha512_words.proofs.sum.Kinds as sum_kinds
use Rattle.sha512_words.proofs.sum.Reads as sum
use Rattle.sha512_words.proofs.ch.Kinds as ch_kinds
use Rattle.sha512_words.proofs.ch.Reads as ch
use Rattle.sha512_words.proofs.maj.Kinds as maj_kinds
use Rattle.sha512_words.proofs.maj.Reads as maj
use Rattle.sha512_words.proofs.big_sigma0.Kinds as big_sigma0_kinds
use Rattle.sha512_words.proofs.big_sigma0.Reads as big_sigma0_reads
use Rattle.sha512_words.proofs.big_sigma1.Kinds as big_sigma1_kinds
use Rattle.sha512_words.proofs.big_sigma1.Reads as big_sigma1_reads
use Rattle.sha512_words.proofs.small_sigma0.Kinds as small_sigma0_kinds
use Rattle.sha512_words.proofs.small_sigma0.Reads as small_sigma0_reads
use Rattle.sha512_words.proofs.small_sigma1.Kinds as small_sigma1_kinds
use Rattle.sha512_words.proofs.small_sigma1.Reads as small_sigma1_reads

pub sum_unique : OneResult sum_kinds.ps sum_kinds.r sum.Post
sum_unique κs a x y v w p q = (p ∙ sym q, refl)

pub ch_unique : OneResult ch_kinds.ps ch_kinds.r ch.Post
ch_unique κs a x y v w p q = (p ∙ sym q, refl)

pub maj_unique : OneResult maj_kinds.ps maj_kinds.r maj.Post
maj_unique κs a x y v w p q = (p ∙ sym q, refl)

pub big_sigma0_unique : OneResult big_sigma0_kinds.ps big_sigma0_kinds.r big_sigma0_reads.Post
big_sigma0_unique κs a x y v w p q = (p ∙ sym q, refl)

pub big_sigma1_unique : OneResult big_sigma1_kinds.ps big_sigma1_kinds.r big_sigma1_reads.Post
big_sigma1_unique κs a x y v w p q = (p ∙ sym q, refl)

pub small_sigma0_unique : OneResult small_sigma0_kinds.ps small_sigma0_kinds.r small_sigma0_reads.Post
small_sigma0_unique κs a x y v w p q = (p ∙ sym q, refl)

pub small_sigma1_unique : OneResult small_sigma1_kinds.ps small_sigma1_kinds.r small_sigma1_reads.Post
small_sigma1_unique κs a x y v w p q = (p ∙ sym q, refl)
