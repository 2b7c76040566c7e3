use Rattle.std.proofs.Common.{◌≡◌, List}
use Rattle.ds_ast.specs.declared.module.StructDef.{StructDef}
use Rattle.ds_shape.proofs.Laws.{only_memory, first_or_memory}
use Rattle.ds_shape.proofs.shapes.layout.Goals as goal

pub returns-clause-only : goal.returns-clause-only
returns-clause-only c = only_memory c.args.whole.now c.lay_out.result c.lay_out.ensures.refused

pub returns-clause-first : goal.returns-clause-first
returns-clause-first c =
    first_or_memory c.args.whole.now (λ (structs : List StructDef). structs ≡ c.args.whole.now.structs)
    c.lay_out.result c.lay_out.ensures.laid_out c.lay_out.ensures.refused
