use denote.Hole.Carrier.{hidden}
use Rattle.std.proofs.Common.{refl}
use Rattle.ds_ast.specs.declared.ty.Ty.TheBlock.{hidden-the_row-Ty-0}
use Rattle.ds_meaning_laws.proofs.addresses_are_tried.Goals as goal

pub returns-clause-elements_have_offsets : goal.returns-clause-elements_have_offsets
unfolding hidden-the_row-Ty-0 hidden
returns-clause-elements_have_offsets c = refl
