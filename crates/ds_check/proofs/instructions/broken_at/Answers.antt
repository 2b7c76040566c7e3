use Rattle.ds_check.proofs.InOrder.{some_site, told_at}
use Rattle.ds_check.proofs.instructions.broken_at.Goals as goal

pub first_broken-requires-clause-site : goal.first_broken-requires-clause-site
first_broken-requires-clause-site c =
    some_site c.args.judge.now.entities.now c.args.judge.now.function.now c.args.number c.requires.number
    c.args.sites.now c.site-site.result c.requires.sites c.site-site.ensures

pub returns : goal.returns
returns c =
    told_at c.args.judge.now.entities.now c.args.judge.now.function.now c.args.number c.requires.number
    c.args.sites.now c.site-site.result c.instr_at-instr.result.now c.first_broken.result
    c.requires.sites c.site-site.ensures c.instr_at-instr.ensures c.first_broken.ensures
