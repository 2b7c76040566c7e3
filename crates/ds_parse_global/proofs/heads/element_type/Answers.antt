use Rattle.std.proofs.Common.{rules}
use Rattle.ds_ast.specs.Equations.{element_type-array}
use Rattle.ds_parse_global.proofs.heads.element_type.Goals as goal

pub returns-in-Array : goal.returns-in-Array
returns-in-Array c = rw (c.in-Array.is, element_type-array) (search rules)
