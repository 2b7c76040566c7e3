use Rattle.std.specs.Prelude.{All}
use Rattle.ds_ast.specs.declared.module.Function.{Function}
use Rattle.ds_ast.specs.declared.module.Block.{Block}
use Rattle.ds_lower.specs.Known.{AllFit}
use Rattle.ds_lower.proofs.Typed.{item_has}
use Rattle.ds_lower.proofs.lowering.lower_functions.Goals as goal

pub lower_function-requires : goal.lower_function-requires
lower_function-requires c =
    item_has (λ (f : Function). All (λ (b : Block). AllFit c.args.scope.now.structs b.code) f.blocks)
    c.args.functions.now
    c.loop-function.function-index c.function-item.result c.requires c.loop-function-test.true c.function-item.is
