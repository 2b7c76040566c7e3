use Rattle.std.proofs.Common.{take}
use Rattle.ds_names.specs.Places.{nows}
use Rattle.ds_lower_parts.proofs.Beside.{keeps_on, so_many}
use Rattle.ds_lower_parts.proofs.places.FirstPlaces.new.Goals as goal

pub loop-n-preserved : goal.loop-n-preserved
loop-n-preserved c =
    keeps_on c.as_slice-items.result.now c.loop-n.n c.index-items-n.result c.keep.new.kept c.keep.new.firsts.items
    c.loop-n-test.true c.index-items-n.is
    (c.in_ok-keep.ensures (take c.loop-n.n (nows c.as_slice-items.result.now))
    (so_many c.as_slice-items.result.now c.loop-n.n c.in_ok-at.at c.loop-n-test.true c.in_ok-at.ensures.value)
    c.loop-n.invariant)
