use Rattle.ds_actor.proofs.Arrives.{begun}
use Rattle.ds_actor.proofs.Kept.{begun_within}
use Rattle.ds_actor.proofs.actor.begin.Goals as goal

pub returns-clause-at : goal.returns-clause-at
returns-clause-at c =
    let code = c.args.code.now in
    let mid = c.spend.new.self in
    begun code c.args.thread.now mid c.begin.new.self c.args.limits.now c.position_by.result c.args.cursors.now
    c.spend.ensures c.requires.lim c.position_by.ensures c.args.function c.args.argument c.begin.ensures

pub returns-clause-within : goal.returns-clause-within
returns-clause-within c =
    begun_within c.args.limits.now c.args.cursors.now c.requires.looks c.classes_are_few.ensures
    c.mallocs_begin.ensures c.pages-pages.ensures.in_range c.args.code.now c.args.thread.now c.spend.new.self c.begin.new.self
    c.position_by.result c.spend.ensures c.requires.lim c.position_by.ensures c.args.function c.args.argument
    c.begin.ensures
