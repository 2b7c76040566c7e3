use Rattle.std.proofs.Common.{◌≡◌}
use Rattle.std.specs.Prelude.{◌↔◌}
use Rattle.ds_step.specs.declared.FullWhat.TheVariants.{Logs, Hash}
use Rattle.ds_map.specs.Bounds.{Bounds}
use Rattle.ds_plain.specs.declared.NoteAt.{NoteAt}
use Rattle.ds_plain.specs.Noting.{HasSkipped, FailsNote, note_next}
use Rattle.ds_log.specs.Walks.{next_in, FindsNone, DrawsNone, HasAllUsed}
use Rattle.ds_log.proofs.Fails.{skipped, full_logs, full_hash}
use Rattle.ds_log.proofs.Stood.{stood}
use Rattle.ds_log.proofs.walk.NoteWalk.answer.Goals as goal

pub returns-clause-next : goal.returns-clause-next
returns-clause-next c =
    let walk = c.self.inside in
    stood (λ (lim : Bounds) (at : NoteAt). next_in c.step_of-event.result.1 ≡ note_next lim at c.args.old)
    walk.limits walk.thread walk.next c.in-NotesOn.at c.args.self.now c.in-NotesOn.is c.self.view_is
    c.step_of-event.ensures.next

pub returns-clause-skipped : goal.returns-clause-skipped
returns-clause-skipped c =
    let walk = c.self.inside in
    let next = next_in c.step_of-event.result.1 in
    stood (λ (lim : Bounds) (at : NoteAt). (next ≡ HasSkipped) ↔ FindsNone at c.args.old)
    walk.limits walk.thread walk.next c.in-NotesOn.at c.args.self.now c.in-NotesOn.is c.self.view_is
    (skipped walk.limits c.in-NotesOn.at c.args.old next c.step_of-event.ensures.next)

pub returns-clause-full_logs : goal.returns-clause-full_logs
returns-clause-full_logs c =
    let walk = c.self.inside in
    let next = next_in c.step_of-event.result.1 in
    stood (λ (lim : Bounds) (at : NoteAt). (next ≡ FailsNote Logs) ↔ DrawsNone lim at c.args.old)
    walk.limits walk.thread walk.next c.in-NotesOn.at c.args.self.now c.in-NotesOn.is c.self.view_is
    (full_logs walk.limits c.in-NotesOn.at c.args.old next c.step_of-event.ensures.next)

pub returns-clause-full_hash : goal.returns-clause-full_hash
returns-clause-full_hash c =
    let walk = c.self.inside in
    let next = next_in c.step_of-event.result.1 in
    stood (λ (lim : Bounds) (at : NoteAt). (next ≡ FailsNote Hash) ↔ HasAllUsed at c.args.old)
    walk.limits walk.thread walk.next c.in-NotesOn.at c.args.self.now c.in-NotesOn.is c.self.view_is
    (full_hash walk.limits c.in-NotesOn.at c.args.old next c.step_of-event.ensures.next)
