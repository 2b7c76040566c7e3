-- A thread that stands at a step has fuel for it.
use Rattle.std.proofs.Common.{◌≡◌, ℕ, ◌<◌, Bool, true, false, if◌then◌else◌, nat_lt, List, [], Option, Some, None}
use Rattle.std.proofs.Common.{refl}
use Rattle.std.proofs.Common.{ltb-true}
use Rattle.ds_map.specs.Bounds.{Bounds}
use Rattle.ds_map.specs.Blocks.{class_of}
use Rattle.ds_plain.specs.declared.Stop.{Stop}
use Rattle.ds_plain.specs.declared.Stop.TheVariants.{Idle, Running, Returned, Trap, Full, Fuel}
use Rattle.ds_plain.specs.declared.Request.{Request}
use Rattle.ds_plain.specs.declared.Request.TheVariants as requests
use Rattle.ds_plain.specs.declared.StartAt.TheVariants.{LoadStart}
use Rattle.ds_plain.specs.declared.NoteAt.TheVariants as notes
use Rattle.ds_plain.specs.declared.FreeAt.TheVariants as frees
use Rattle.ds_plain.specs.declared.Position.{Position}
use Rattle.ds_plain.specs.declared.Position.TheVariants.{Start, Access, Malloc, Note, Free, Spawn, Join}
use Rattle.ds_plain.specs.declared.Position.TheVariants.{DrawPrint, StoreEnded, Over, NoRow}
use Rattle.ds_plain.specs.Behaviour.{silent}
use Rattle.ds_plain.specs.Noting.{is_notable}
use Rattle.ds_plain.specs.Freeing.{is_freeable}
use Rattle.ds_plain.specs.Table.{looking_for, position_of, end_by}
use Rattle.ds_plain.specs.Thread.{Thread}
use Rattle.ds_frame.specs.declared.moved.Want.{Want}
use Rattle.ds_frame.specs.declared.moved.Want.TheVariants as wants
use Rattle.ds_actor.specs.Actors.{stands_at, wanted_position, Pays}

-- a thread that has begun does not stand at its start
abbrev IsOn : Position → Type 0
IsOn (Start at) = ⊥
IsOn (Access at) = Unit {0}
IsOn (Malloc at) = Unit {0}
IsOn (Note at) = Unit {0}
IsOn (Free at) = Unit {0}
IsOn (Spawn at) = Unit {0}
IsOn (Join at) = Unit {0}
IsOn (DrawPrint value) = Unit {0}
IsOn (StoreEnded stop) = Unit {0}
IsOn (Over stop) = Unit {0}
IsOn NoRow = Unit {0}

module _ (lim : Bounds) (units : ℕ) (want : Want) where
  abbrev at_test : Position → Bool → Thread
  at_test p b =
      if b then record { rest = silent; position = p; units = units; began = false; cursors = [] }
      else record { rest = silent; position = StoreEnded Fuel; units = units; began = false; cursors = [] }

  by_test : (p : Position) (b : Bool) → nat_lt units lim.fuel ≡ b → (units < lim.fuel → Pays lim.fuel units want p)
      → Pays lim.fuel units want (at_test p b).position
  by_test p true e pays = pays (ltb-true units lim.fuel e)
  by_test p false e pays = tt

  stands_pays : (p : Position) → IsOn p → Pays lim.fuel units want (stands_at lim units p)
  stands_pays (Start at) on = absurd on
  stands_pays (Access at) on = by_test (Access at) (nat_lt units lim.fuel) refl (λ lt. lt)
  stands_pays (Malloc at) on = by_test (Malloc at) (nat_lt units lim.fuel) refl (λ lt. lt)
  stands_pays (Note at) on = by_test (Note at) (nat_lt units lim.fuel) refl (λ lt. lt)
  stands_pays (Free at) on = by_test (Free at) (nat_lt units lim.fuel) refl (λ lt. lt)
  stands_pays (Spawn at) on = by_test (Spawn at) (nat_lt units lim.fuel) refl (λ lt. lt)
  stands_pays (Join at) on = by_test (Join at) (nat_lt units lim.fuel) refl (λ lt. lt)
  stands_pays (DrawPrint value) on = by_test (DrawPrint value) (nat_lt units lim.fuel) refl (λ lt. lt)
  stands_pays (StoreEnded stop) on = tt
  stands_pays (Over stop) on = tt
  stands_pays NoRow on = by_test NoRow (nat_lt units lim.fuel) refl (λ lt. tt)

stop_is_on : (stop : Stop) → IsOn (end_by stop)
stop_is_on Idle = tt
stop_is_on Running = tt
stop_is_on (Returned value) = tt
stop_is_on (Trap trap) = tt
stop_is_on (Full place what) = tt
stop_is_on Fuel = tt

malloc_is_on : (cursors : List ℕ) (class : Option ℕ) → IsOn (looking_for cursors class)
malloc_is_on cursors None = tt
malloc_is_on cursors (Some class) = tt

note_is_on : (b : Bool) (loc value : ℕ) → IsOn (if b then Note (notes.LoadPage loc value) else NoRow)
note_is_on true loc value = tt
note_is_on false loc value = tt

free_is_on : (b : Bool) (address : ℕ) → IsOn (if b then Free (frees.LoadPage address) else NoRow)
free_is_on true address = tt
free_is_on false address = tt

request_is_on : (lim : Bounds) (cursors : List ℕ) (request : Request) → IsOn (position_of lim cursors request)
request_is_on lim cursors (requests.Load access) = tt
request_is_on lim cursors (requests.Store access value) = tt
request_is_on lim cursors (requests.Rmw access op value) = tt
request_is_on lim cursors (requests.Cas access expected new) = tt
request_is_on lim cursors (requests.Malloc bytes) = malloc_is_on cursors (class_of bytes)
request_is_on lim cursors (requests.Free address) = free_is_on (is_freeable lim address) address
request_is_on lim cursors (requests.Note loc value) = note_is_on (is_notable lim loc value) loc value
request_is_on lim cursors (requests.Print value) = tt
request_is_on lim cursors (requests.Spawn loc function arg) = tt
request_is_on lim cursors (requests.Join number) = tt
request_is_on lim cursors (requests.Stop stop) = stop_is_on stop

-- where a thread comes by what it wants, it pays for the step there
pub wanted_pays : (lim : Bounds) (cursors : List ℕ) (units : ℕ) (want : Want)
    → Pays lim.fuel units want (stands_at lim units (wanted_position lim cursors want))
wanted_pays lim cursors units wants.Begin =
    by_test lim units wants.Begin (Start LoadStart) (nat_lt units lim.fuel) refl (λ lt. (lt, refl))
wanted_pays lim cursors units (wants.Asks request) =
    stands_pays lim units (wants.Asks request) (position_of lim cursors request) (request_is_on lim cursors request)
