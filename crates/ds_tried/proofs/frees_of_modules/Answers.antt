use Rattle.std.proofs.Common.{refl}
use Rattle.ds_tried.specs.Worked.{free_of_null_does_nothing, double_free_traps, free_inside_block_traps}
use Rattle.ds_tried.specs.Worked.{free_of_stack_traps}
use Rattle.ds_tried.proofs.Examples.{worked}
use Rattle.ds_tried.proofs.frees_of_modules.Goals as goal

pub returns-clause-free_of_null_does_nothing : goal.returns-clause-free_of_null_does_nothing
returns-clause-free_of_null_does_nothing c = worked free_of_null_does_nothing refl refl refl refl

pub returns-clause-double_free_traps : goal.returns-clause-double_free_traps
returns-clause-double_free_traps c = worked double_free_traps refl refl refl refl

pub returns-clause-free_inside_block_traps : goal.returns-clause-free_inside_block_traps
returns-clause-free_inside_block_traps c = worked free_inside_block_traps refl refl refl refl

pub returns-clause-free_of_stack_traps : goal.returns-clause-free_of_stack_traps
returns-clause-free_of_stack_traps c = worked free_of_stack_traps refl refl refl refl
