use Rattle.std.proofs.Common.{ℕ, ◌+◌, List, ap, sym, subst, ◌∙◌}
use Rattle.ds_plain.specs.Starting.{start_next}
use Rattle.ds_plain.specs.Thread.{going_on, moved_from_start}
use Rattle.ds_code.specs.CodeProgram.{program_of, behaves}
use Rattle.ds_frame.specs.Threads.{runs}
use Rattle.ds_actor.specs.Actors.{ActorState, actor_with, start_in, IsAt}
use Rattle.ds_actor.proofs.Starts.{begun_at}
use Rattle.ds_actor.proofs.actor.Actor.start.Goals as goal

pub returns-in-Begins-clause-stands : goal.returns-in-Begins-clause-stands
returns-in-Begins-clause-stands c = λ a at.
    let code = c.args.code.now in
    let actor = c.args.self.now in
    let lim = actor.thread.lim in
    let new = c.begin-self-inside.new.thread in
    let position = c.begin-self-inside.result in
    let function = c.in-Begins.function in
    let argument = c.in-Begins.argument in
    let next = start_next (program_of lim code) actor.thread.number c.args.at c.args.old in
    let number = sym (ap (λ (x : ActorState). x.thread.number) c.self.view_is) ∙ c.self.invariant.same_number in
    subst (λ (cs : List ℕ). IsAt code (actor_with new position cs)
    (moved_from_start (program_of lim code) lim actor.thread.number a next))
    (sym (ap (λ (x : ActorState). x.cursors) c.self.view_is))
    (begun_at code actor new position a next function argument
    (ap (λ (t : ℕ). start_next (program_of lim code) t c.args.at c.args.old) number
    ∙ (sym (c.start_step.ensures lim) ∙ ap start_in c.in-Begins.is)) at
    (subst (λ (x : ActorState). IsAt code (actor_with new position x.cursors)
    (going_on x.thread.lim x.cursors (x.thread.units + 1) (behaves (runs code x.thread) function argument)))
    c.self.view_is c.begin-self-inside.ensures.at))
