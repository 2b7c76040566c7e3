use denote.Hole.Carrier.{hidden}
use Rattle.std.proofs.Common.{refl}
use Rattle.ds_ast.specs.declared.ty.Ty.TheBlock.{hidden-the_row-Ty-0}
use Rattle.ds_meaning_laws.proofs.allocas_are_tried.Goals as goal

pub returns-clause-allocates_whole_words : goal.returns-clause-allocates_whole_words
unfolding hidden-the_row-Ty-0 hidden
returns-clause-allocates_whole_words c = (refl, refl, refl)

pub returns-clause-no_words_are_always_there : goal.returns-clause-no_words_are_always_there
unfolding hidden-the_row-Ty-0 hidden
returns-clause-no_words_are_always_there c = (refl, refl)
