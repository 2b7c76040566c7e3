use Rattle.std.proofs.Common.{◌∙◌, ap}
use Rattle.std.specs.Int.{div_ceil}
use Rattle.ds_check.proofs.GlobalSizes.{words}
use Rattle.ds_check.proofs.words.words_of.Goals as goal

pub returns : goal.returns
returns c = λ e has. c.div_ceil.ensures ∙ ap (λ n. div_ceil n 8) (c.size_of.ensures e has) ∙ words e.size
