use Rattle.std.proofs.Common.{◌+◌, ◌∙◌}
use Rattle.ds_access.proofs.Bits.{cut}
use Rattle.ds_access.proofs.parts.sum.Goals as goal

pub returns : goal.returns
returns c = c.lowest.ensures.value ∙ cut (c.args.old + c.args.value) c.args.bits c.requires
