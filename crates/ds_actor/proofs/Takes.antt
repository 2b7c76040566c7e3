-- A thread that takes a block.
use Rattle.std.proofs.Common.{◌≡◌, ℕ, ◌+◌, List, slice_set, Some, ap, sym, subst, ◌∙◌}
use Rattle.std.specs.Prelude.{IfSome}
use Rattle.ds_map.specs.Bounds.{Bounds, IsInRange}
use Rattle.ds_map.specs.Blocks.{block_start}
use Rattle.ds_plain.specs.declared.AllocAt.{AllocAt}
use Rattle.ds_plain.specs.declared.Position.{Position}
use Rattle.ds_plain.specs.declared.Position.TheVariants.{Malloc}
use Rattle.ds_plain.specs.Behaviour.{Behaviour, told}
use Rattle.ds_plain.specs.Searching.{AllocNext, Looks, Takes, TakesNone, place_behind, alloc_event, alloc_next}
use Rattle.ds_plain.specs.Reached.{IsPlace, IsAllocAt, ahead_of, left_behind_event}
use Rattle.ds_plain.specs.Thread.{Thread, going_on, moved_from_malloc}
use Rattle.ds_code.specs.declared.functions.CodeParts.{CodeParts}
use Rattle.ds_frame.specs.Threads.{ThreadState, runs, Serves}
use Rattle.ds_alloc_laws.specs.Laws.{MallocsLookOn, LooksOn, class_at}
use Rattle.ds_alloc.specs.declared.outcome.AllocOutcome.TheVariants.{Block}
use Rattle.ds_alloc.specs.Walks.{looks_at, outcome_of}
use Rattle.ds_actor.specs.Actors.{ActorState, actor_with, GoesOn, IsAt}

-- a malloc that has taken a block at a place
abbrev pub TakesAt : Bounds → AllocAt → (old place life : ℕ) → Type 0
TakesAt lim at old place life =
    (alloc_next lim at old ≡ Takes (class_at at) place life) × IsPlace lim (class_at at) place

-- the walk of a malloc has taken a block where the row does
took_by : (lim : Bounds) (class : ℕ) (left : List ℕ) (next after : AllocNext) (place life : ℕ) → after ≡ next
    → outcome_of after ≡ Some (Block place life) → LooksOn lim class left next
    → (next ≡ Takes class place life) × IsPlace lim class place
took_by lim class left next (Looks at) place life is e looks = absurd (cc (e))
took_by lim class left next (Takes c p l) place life is e looks =
    let known : LooksOn lim class left (Takes c p l) = subst (LooksOn lim class left) (sym is) looks in
    let here : p ≡ place = cc (e) in
    let lived : l ≡ life = cc (e) in (
      sym is ∙ (ap (λ c. Takes c p l) known.0 ∙ (ap (λ p. Takes class p l) here ∙ ap (Takes class place) lived)),
      subst (IsPlace lim class) here known.1,
    )
took_by lim class left next TakesNone place life is e looks = absurd (cc (e))

pub took_next : MallocsLookOn → (lim wlim : Bounds) (at : AllocAt) (old : ℕ) (before after : AllocNext)
    (place life : ℕ) → before ≡ Looks at → wlim ≡ lim
    → IfSome (looks_at before) (λ at. after ≡ alloc_next wlim at old) → outcome_of after ≡ Some (Block place life)
    → IsInRange lim → IsAllocAt lim at → TakesAt lim at old place life
took_next law lim wlim at old before after place life looks same next outcome range reached =
    let known : after ≡ alloc_next wlim at old =
    subst (λ (n : AllocNext). IfSome (looks_at n) (λ at. after ≡ alloc_next wlim at old)) looks next in
    took_by lim (class_at at) (left_behind_event (alloc_event lim at old) (ahead_of lim at)) (alloc_next lim at old)
    after place life (known ∙ ap (λ (l : Bounds). alloc_next l at old) same) outcome (law lim at old range reached)

-- it is told where the block starts, and looks behind it next time
pub took : (code : CodeParts) (new : ThreadState) (position : Position) (old : ActorState) (lim : Bounds)
    (class place behind start : ℕ) (cursors : List ℕ) → old.thread.lim ≡ lim
    → cursors ≡ slice_set old.cursors class behind → behind ≡ place_behind lim class place
    → start ≡ block_start place class
    → ((rest : Behaviour) → Serves (runs code old.thread) old.thread.machine rest
    → IsAt code (actor_with new position cursors)
    (going_on old.thread.lim cursors (old.thread.units + 1) (told rest start)))
    → (rest : Behaviour) → Serves (runs code old.thread) old.thread.machine rest
    → IsAt code (actor_with new position cursors)
    (going_on old.thread.lim (slice_set old.cursors class (place_behind old.thread.lim class place))
    (old.thread.units + 1) (told rest (block_start place class)))
took code new position old lim class place behind start cursors same moved there starts made rest serves =
    let known : cursors ≡ slice_set old.cursors class (place_behind old.thread.lim class place) =
    moved ∙ ap (λ (p : ℕ). slice_set old.cursors class p)
    (there ∙ ap (λ (l : Bounds). place_behind l class place) (sym same)) in
    subst (λ (s : ℕ). IsAt code (actor_with new position cursors)
    (going_on old.thread.lim (slice_set old.cursors class (place_behind old.thread.lim class place))
    (old.thread.units + 1) (told rest s))) starts
    (subst (λ (cs : List ℕ). IsAt code (actor_with new position cursors)
    (going_on old.thread.lim cs (old.thread.units + 1) (told rest start))) known (made rest serves))

pub malloc_took : (code : CodeParts) (actor new : ActorState) (at : AllocAt) (old class place life : ℕ) (a : Thread)
    → actor.position ≡ Malloc at → alloc_next actor.thread.lim at old ≡ Takes class place life → IsAt code actor a
    → ((rest : Behaviour) → Serves (runs code actor.thread) actor.thread.machine rest
    → IsAt code new (going_on actor.thread.lim
    (slice_set actor.cursors class (place_behind actor.thread.lim class place)) (actor.thread.units + 1)
    (told rest (block_start place class))))
    → IsAt code new (moved_from_malloc actor.thread.lim a (alloc_next actor.thread.lim at old))
malloc_took code actor new at old class place life a here takes is made =
    let serves : Serves (runs code actor.thread) actor.thread.machine a.rest =
    subst (GoesOn (runs code actor.thread) actor.thread.machine actor.thread.place a.rest) here is.goes_on in
    subst (λ (next : AllocNext). IsAt code new (moved_from_malloc actor.thread.lim a next)) (sym takes)
    (subst (λ (n : ℕ). IsAt code new (going_on actor.thread.lim
    (slice_set a.cursors class (place_behind actor.thread.lim class place)) (n + 1)
    (told a.rest (block_start place class)))) is.units
    (subst (λ (cs : List ℕ). IsAt code new (going_on actor.thread.lim
    (slice_set cs class (place_behind actor.thread.lim class place)) (actor.thread.units + 1)
    (told a.rest (block_start place class)))) is.cursors (made a.rest serves)))
