-- The values that an instruction uses, as the code hands them out.
use Rattle.ds_ast.specs.declared.value.Value.{Value}
use Rattle.ds_ast.specs.declared.value.Value.TheVariants.{Local, Global}
use Rattle.ds_check_blocks.specs.declared.uses.Used.{Used}
use Rattle.ds_check_blocks.specs.declared.uses.Used.TheVariants as used

-- the value that it is
abbrev pub value_of : Used → Value
value_of (used.Value v) = v.now
value_of (used.Local name) = Local name.now
value_of (used.Global name) = Global name.now
