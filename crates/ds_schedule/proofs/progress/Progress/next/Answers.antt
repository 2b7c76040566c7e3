use Rattle.std.proofs.Common.{◌∙◌, sym}
use Rattle.ds_schedule.proofs.Same.{next_same, may_same}
use Rattle.ds_schedule.proofs.progress.Progress.next.Goals as goal

pub returns-clause-next : goal.returns-clause-next
returns-clause-next c turns h = sym (next_same c.args.self.now turns h) ∙ c.turn.ensures.next

pub returns-clause-may : goal.returns-clause-may
returns-clause-may c turns h = sym (may_same c.args.self.now turns h c.turn.result) ∙ c.turn.ensures.may
