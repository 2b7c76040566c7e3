use Rattle.ds_ast.specs.declared.module.GlobalDef.{GlobalDef}
use Rattle.ds_shape.specs.Fits.{Fits}
use Rattle.ds_lower_parts.proofs.Addresses.{item_has}
use Rattle.ds_lower_parts.proofs.image.image_of.Goals as goal

pub push_global-requires : goal.push_global-requires
push_global-requires c =
    item_has (λ (g : GlobalDef). Fits c.args.scope.now.structs g.ty) c.args.globals.now c.loop-global.global-index
    c.global-item.result c.requires c.loop-global-test.true c.global-item.is
