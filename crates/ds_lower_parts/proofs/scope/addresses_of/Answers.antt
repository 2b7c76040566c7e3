use Rattle.ds_lower_parts.proofs.Addresses.{global_fits}
use Rattle.ds_lower_parts.proofs.scope.addresses_of.Goals as goal

pub size_in-requires : goal.size_in-requires
size_in-requires c =
    global_fits c.args.whole.now c.args.shapes.now c.as_slice-globals.result.now c.loop-n.n c.index-globals-n.result
    c.written_types_fit.ensures c.requires.layout c.requires.same c.as_slice-globals.ensures c.loop-n-test.true
