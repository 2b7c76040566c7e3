-- A thread that begins, whatever row lets it.
use Rattle.std.proofs.Common.{◌≡◌, ℕ, ◌+◌, List, sym, ap, subst, ◌∙◌}
use Rattle.ds_plain.specs.declared.Position.{Position}
use Rattle.ds_plain.specs.Behaviour.{Behaviour}
use Rattle.ds_plain.specs.Starting.{StartNext, Begins}
use Rattle.ds_plain.specs.Thread.{Thread, going_on, moved_from_start}
use Rattle.ds_code.specs.declared.functions.CodeParts.{CodeParts}
use Rattle.ds_code.specs.CodeProgram.{program_of, behaves}
use Rattle.ds_frame.specs.Threads.{ThreadState, runs}
use Rattle.ds_actor.specs.Actors.{ActorState, actor_with, IsAt}

pub begun_at : (code : CodeParts) (actor : ActorState) (new : ThreadState) (position : Position) (a : Thread)
    (next : StartNext) (function argument : ℕ) → next ≡ Begins function argument → IsAt code actor a
    → IsAt code (actor_with new position actor.cursors) (going_on actor.thread.lim actor.cursors
    (actor.thread.units + 1) (behaves (runs code actor.thread) function argument))
    → IsAt code (actor_with new position actor.cursors)
    (moved_from_start (program_of actor.thread.lim code) actor.thread.lim actor.thread.number a next)
begun_at code actor new position a next function argument is at made =
    let lim = actor.thread.lim in
    let rest : Behaviour = behaves (runs code actor.thread) function argument in
    subst (IsAt code (actor_with new position actor.cursors))
    (ap (λ (n : ℕ). going_on lim actor.cursors (n + 1) rest) at.units
    ∙ (ap (λ (cs : List ℕ). going_on lim cs (a.units + 1) rest) at.cursors
    ∙ ap (λ (x : StartNext). moved_from_start (program_of lim code) lim actor.thread.number a x) (sym is))) made
