use Rattle.std.proofs.Common.{refl}
use Rattle.ds_lower_parts.proofs.Imaged.{low_on, rest_on}
use Rattle.ds_lower_parts.proofs.image.push_low.Goals as goal

pub loop-i-preserved : goal.loop-i-preserved
loop-i-preserved c = record {
  same = low_on c.loop-i.bytes.items c.push.new.self.items _ c.args.count c.loop-i.i c.args.number c.loop-i.rest
      c.loop-i-test.true c.loop-i.invariant.same c.loop-i.invariant.rest c.in_ok-push.ensures.items;
  rest = rest_on c.args.number c.loop-i.i c.loop-i.rest _ c.loop-i.invariant.rest refl;
}
