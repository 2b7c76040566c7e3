use Rattle.std.proofs.Common.{sym, subst}
use Rattle.std.specs.Prelude.{All}
use Rattle.ds_ast.specs.declared.module.Block.{Block}
use Rattle.ds_lower.specs.Known.{AllFit}
use Rattle.ds_lower.proofs.lowering.lower_function.Goals as goal

pub lower_blocks-requires : goal.lower_blocks-requires
lower_blocks-requires c =
    subst (λ bs. All (λ (b : Block). AllFit c.args.scope.now.structs b.code) bs) (sym c.as_slice.ensures) c.requires
