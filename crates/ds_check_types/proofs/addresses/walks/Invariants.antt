use Rattle.std.proofs.Common.{◌↔◌, drop}
use Rattle.ds_shape.specs.Types.{Walks}
use Rattle.ds_check_types.proofs.addresses.walks.Given as goal

abbrev pub invariant-loop-index : goal.invariant-loop-index
invariant-loop-index l =
    Walks l.fn.entities l.fn.ty l.fn.indices ↔ Walks l.fn.entities l.at (drop l.index-index l.fn.indices)
