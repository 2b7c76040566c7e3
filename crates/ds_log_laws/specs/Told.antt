-- What the steps of a trace tell.
use Rattle.std.specs.Prelude.{◌≡◌, ◌⊎◌, ℕ, suc, Bool, false, ◌==◌, ◌&&◌, if◌then◌else◌, List, [], ◌∷◌, Option, Some}
use Rattle.ds_step.specs.declared.Event.{Event}
use Rattle.ds_step.specs.declared.Event.TheVariants as events
use Rattle.ds_step.specs.declared.Step.{Step}

-- some step of the trace tells this
abbrev pub IsTold : Event → List Step → Type 0
IsTold event [] = ⊥
IsTold event (s ∷ ss) = (s.event ≡ event) ⊎ IsTold event ss

-- some step found that a stored value points into the live block at this place, whatever its life
abbrev pub HasFound : (place : ℕ) → List Step → Type 0
HasFound place trace = (start : ℕ) × (life : ℕ) × IsTold (events.Found place start life) trace

-- the step noted a location for this life of the block at a place
abbrev pub notes_for : (place life : ℕ) → Event → Bool
notes_for place life events.Begin = false
notes_for place life (events.Spawn n function arg) = false
notes_for place life events.SpawnRefused = false
notes_for place life (events.Join n) = false
notes_for place life events.End = false
notes_for place life (events.Print number value) = false
notes_for place life (events.Load loc value) = false
notes_for place life (events.Store loc value) = false
notes_for place life (events.Exchange loc value) = false
notes_for place life (events.Assign page class) = false
notes_for place life (events.Taken other) = false
notes_for place life (events.TakenPage page) = false
notes_for place life (events.Block other start since) = false
notes_for place life (events.Found other start since) = false
notes_for place life events.Skip = false
notes_for place life (events.Noted other since loc) = (other == place) && (since == life)
notes_for place life (events.BeginFree other since) = false
notes_for place life (events.Mark loc) = false
notes_for place life (events.Seen loc) = false
notes_for place life (events.EndFree other) = false
notes_for place life events.Trap = false
notes_for place life (events.Full what) = false
notes_for place life events.Log = false

-- how many steps of the trace did so
abbrev pub noted_count : (place life : ℕ) → List Step → ℕ
noted_count place life [] = 0
noted_count place life (s ∷ ss) =
    if notes_for place life s.event then suc (noted_count place life ss) else noted_count place life ss

-- the place and the life of the block that was found last, behind a step, by what was found before it
abbrev pub found_behind : Event → Option (ℕ × ℕ) → Option (ℕ × ℕ)
found_behind events.Begin before = before
found_behind (events.Spawn n function arg) before = before
found_behind events.SpawnRefused before = before
found_behind (events.Join n) before = before
found_behind events.End before = before
found_behind (events.Print number value) before = before
found_behind (events.Load loc value) before = before
found_behind (events.Store loc value) before = before
found_behind (events.Exchange loc value) before = before
found_behind (events.Assign page class) before = before
found_behind (events.Taken place) before = before
found_behind (events.TakenPage page) before = before
found_behind (events.Block place start life) before = before
found_behind (events.Found place start life) before = Some (place, life)
found_behind events.Skip before = before
found_behind (events.Noted place life loc) before = before
found_behind (events.BeginFree place life) before = before
found_behind (events.Mark loc) before = before
found_behind (events.Seen loc) before = before
found_behind (events.EndFree place) before = before
found_behind events.Trap before = before
found_behind (events.Full what) before = before
found_behind events.Log before = before

-- those of the block that was found last, behind all steps of the trace
abbrev pub last_found : Option (ℕ × ℕ) → List Step → Option (ℕ × ℕ)
last_found before [] = before
last_found before (s ∷ ss) = last_found (found_behind s.event before) ss
