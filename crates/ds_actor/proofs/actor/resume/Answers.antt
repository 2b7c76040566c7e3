use Rattle.std.proofs.Common.{sym, subst}
use Rattle.ds_frame.specs.Threads.{runs}
use Rattle.ds_actor.specs.Actors.{Pays}
use Rattle.ds_actor.proofs.Arrives.{resumed, served, serves, kept}
use Rattle.ds_actor.proofs.Kept.{resumed_within}
use Rattle.ds_actor.proofs.Pays.{wanted_pays}
use Rattle.ds_actor.proofs.actor.resume.Goals as goal

pub returns-clause-at : goal.returns-clause-at
returns-clause-at c =
    resumed c.args.code.now c.args.thread.now c.spend.new.self c.answer.new.self c.args.limits.now
    c.position_by.result c.args.cursors.now c.spend.ensures c.requires.lim c.position_by.ensures c.args.value
    c.answer.ensures

pub returns-clause-same : goal.returns-clause-same
returns-clause-same c =
    let r = runs c.args.code.now c.spend.new.self in
    kept c.args.code.now c.args.thread.now c.spend.new.self c.answer.new.self _ c.spend.ensures
    (c.answer.ensures (served r c.spend.new.self.machine) (serves r c.spend.new.self.machine))

pub returns-clause-within : goal.returns-clause-within
returns-clause-within c =
    let r = runs c.args.code.now c.spend.new.self in
    resumed_within c.args.limits.now c.args.cursors.now c.requires.looks c.classes_are_few.ensures
    c.mallocs_begin.ensures c.pages-pages.ensures.in_range c.args.code.now c.args.thread.now c.spend.new.self c.answer.new.self
    c.position_by.result c.spend.ensures c.requires.lim c.position_by.ensures c.args.value
    (c.answer.ensures (served r c.spend.new.self.machine) (serves r c.spend.new.self.machine))

pub returns-clause-pays : goal.returns-clause-pays
returns-clause-pays c =
    let new = c.answer.new.self in
    subst (Pays c.args.limits.now.fuel new.units new.want) (sym c.position_by.ensures)
    (wanted_pays c.args.limits.now c.args.cursors.now new.units new.want)
