use Rattle.std.proofs.Common.{◌↔◌, IsTrue, sym, subst}
use Rattle.ds_shape.specs.Placed.{IsDefined}
use Rattle.ds_check_blocks.specs.Uses.{value_of}
use Rattle.ds_check.proofs.Defined.{local_defined}
use Rattle.ds_check.proofs.operands.is_defined_use.Goals as goal

-- src/operands.rt:13:1
pub returns-in-Local : goal.returns-in-Local
returns-in-Local c =
    subst (λ u. IsTrue c.is_some.result ↔ IsDefined c.args.entities.now c.args.locals.now (value_of u))
    (sym c.in-Local.is)
    (local_defined c.args.locals.now c.in-Local.name.now c.defined.result c.is_some.result c.defined.ensures
    c.is_some.ensures)
