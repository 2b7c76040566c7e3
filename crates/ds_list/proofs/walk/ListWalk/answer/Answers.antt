use Rattle.std.proofs.Common.{◌≡◌, ℕ, sym, ◌∙◌}
use Rattle.std.specs.Prelude.{◌↔◌}
use Rattle.ds_step.specs.declared.FullWhat.TheVariants.{Logs, Hash}
use Rattle.ds_map.specs.Bounds.{Bounds}
use Rattle.ds_plain.specs.declared.ListAt.{ListAt}
use Rattle.ds_plain.specs.Listing.{Owns, FailsList, list_life}
use Rattle.ds_list.specs.Walks.{next_in, IsOwn, DrawsNone, HasAllUsed}
use Rattle.ds_list.proofs.Fails.{full_logs, full_hash}
use Rattle.ds_list.proofs.Owned.{owned}
use Rattle.ds_list.proofs.Stood.{stood, stood_at}
use Rattle.ds_list.proofs.walk.ListWalk.answer.Goals as goal

pub returns-clause-owned : goal.returns-clause-owned
returns-clause-owned c =
    let walk = c.self.inside in
    let next = next_in c.step_of-event.result.1 in
    stood
    (λ (lim : Bounds) (at : ListAt). (log header : ℕ) → next ≡ Owns log header → IsOwn lim (list_life at) log header)
    walk.limits walk.thread walk.next c.in-ListsOn.at c.args.self.now c.in-ListsOn.is c.self.view_is
    (λ log header e. owned walk.limits c.in-ListsOn.at c.args.old log header
    (stood_at walk.limits walk.next c.in-ListsOn.at c.in-ListsOn.is c.self.invariant.stands)
    (sym c.step_of-event.ensures.next ∙ e))

pub returns-clause-full_logs : goal.returns-clause-full_logs
returns-clause-full_logs c =
    let walk = c.self.inside in
    let next = next_in c.step_of-event.result.1 in
    stood (λ (lim : Bounds) (at : ListAt). (next ≡ FailsList Logs) ↔ DrawsNone lim at c.args.old)
    walk.limits walk.thread walk.next c.in-ListsOn.at c.args.self.now c.in-ListsOn.is c.self.view_is
    (full_logs walk.limits c.in-ListsOn.at c.args.old next c.step_of-event.ensures.next)

pub returns-clause-full_hash : goal.returns-clause-full_hash
returns-clause-full_hash c =
    let walk = c.self.inside in
    let next = next_in c.step_of-event.result.1 in
    stood (λ (lim : Bounds) (at : ListAt). (next ≡ FailsList Hash) ↔ HasAllUsed at c.args.old)
    walk.limits walk.thread walk.next c.in-ListsOn.at c.args.self.now c.in-ListsOn.is c.self.view_is
    (full_hash walk.limits c.in-ListsOn.at c.args.old next c.step_of-event.ensures.next)
