use Rattle.std.proofs.Common.{◌∙◌, refl}
use Rattle.std.specs.Int.{w128}
use Rattle.std.proofs.lemmas.Int.{to_z-of_z}
use Rattle.gd_text.proofs.prices.eight.Goals as goal

pub returns : goal.returns
returns c = c.of.ensures ∙ rw (to_z-of_z w128 c.word.result c.word.ensures.fits, c.word.ensures.is, to_z-of_z w128 c.word-2.result c.word-2.ensures.fits, c.word-2.ensures.is, to_z-of_z w128 c.word-3.result c.word-3.ensures.fits, c.word-3.ensures.is, to_z-of_z w128 c.word-4.result c.word-4.ensures.fits, c.word-4.ensures.is, to_z-of_z w128 c.word-5.result c.word-5.ensures.fits, c.word-5.ensures.is, to_z-of_z w128 c.word-6.result c.word-6.ensures.fits, c.word-6.ensures.is, to_z-of_z w128 c.word-7.result c.word-7.ensures.fits, c.word-7.ensures.is, to_z-of_z w128 c.word-8.result c.word-8.ensures.fits, c.word-8.ensures.is) refl
