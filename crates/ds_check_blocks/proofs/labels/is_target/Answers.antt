use Rattle.ds_check_blocks.proofs.Branched.{target_by, no_target}
use Rattle.ds_check_blocks.proofs.labels.is_target.Goals as goal

pub returns-in-Some : goal.returns-in-Some
returns-in-Some c =
    target_by c.args.locals.now c.args.label.now c.block.result c.block.ensures c.in-Some.number c.in-Some.is

pub returns-in-None : goal.returns-in-None
returns-in-None c = no_target c.args.locals.now c.args.label.now c.block.result c.block.ensures c.in-None.is
