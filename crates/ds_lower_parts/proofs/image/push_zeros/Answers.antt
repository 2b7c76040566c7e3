use Rattle.ds_lower_parts.proofs.Imaged.{no_zeros, zeros_on}
use Rattle.ds_lower_parts.proofs.image.push_zeros.Goals as goal

pub loop-i-init : goal.loop-i-init
loop-i-init c = no_zeros c.args.bytes.now.items

pub loop-i-preserved : goal.loop-i-preserved
loop-i-preserved c =
    zeros_on c.args.bytes.now.items c.loop-i.bytes.items c.push.new.self.items c.loop-i.i c.loop-i.invariant
    c.in_ok-push.ensures.items
