use Rattle.std.proofs.Common.{sym, subst}
use Rattle.ds_alloc.specs.Walks.{AllocState, IsLeft}
use Rattle.ds_alloc.proofs.Left.{left_on}
use Rattle.ds_alloc.proofs.walk.AllocWalk.answer.Goals as goal

pub returns-clause-left : goal.returns-clause-left
returns-clause-left c = λ left was.
    left_on c.self.inside.limits c.mallocs_look_on.ensures c.mallocs_have_left.ensures c.self.inside.next
    c.step_of-event.result.1 c.in-Looks.at c.args.old c.step_of-event.result.0 c.in-Looks.is c.self.invariant
    c.step_of-event.ensures.event c.step_of-event.ensures.next left
    (subst (λ (s : AllocState). IsLeft s left) (sym c.self.view_is) was)
