-- Where a step leads a thread whose program asks only for what has a row.
use Rattle.std.proofs.Common.{◌≡◌, ℕ, suc, ◌+◌, ◌-◌, ◌<◌, ◌≤◌, Bool, true, false, not, if◌then◌else◌, ◌∷◌}
use Rattle.std.proofs.Common.{refl, arith, List, [], Option, Some, None, subst, sym, slice_set}
use Rattle.std.specs.Prelude.{nat_lt, nat_le}
use Rattle.std.proofs.lemmas.Bool.{cond_both, ltb-true, leb-true}
use Rattle.ds_map.specs.Bounds.{Bounds}
use Rattle.ds_map.specs.Blocks.{class_of, block_start}
use Rattle.ds_plain.specs.declared.Stop.{Stop}
use Rattle.ds_plain.specs.declared.Stop.TheVariants.{Idle, Running, Returned, Trap, Full, Fuel}
use Rattle.ds_plain.specs.declared.Request.{Request}
use Rattle.ds_plain.specs.declared.Request.TheVariants as requests
use Rattle.ds_plain.specs.declared.StartAt.TheVariants.{LoadStart}
use Rattle.ds_plain.specs.declared.Position.{Position}
use Rattle.ds_plain.specs.declared.Position.TheVariants.{Start, Access, Malloc, Note, Free, Spawn, Join}
use Rattle.ds_plain.specs.declared.Position.TheVariants.{DrawPrint, StoreEnded, Over, NoRow}
use Rattle.ds_plain.specs.Behaviour.{Asked, Asks, Silent, Behaviour, place_in_text, told, Program}
use Rattle.ds_plain.specs.declared.NoteAt.TheVariants as notes
use Rattle.ds_plain.specs.declared.FreeAt.TheVariants as frees
use Rattle.ds_plain.specs.Plain.{trap_stop}
use Rattle.ds_plain.specs.declared.TrapKind.TheVariants.{BadJoin}
use Rattle.ds_plain.specs.Starting.{StartNext, StartsOn, Begins, start_next}
use Rattle.ds_plain.specs.Spawning.{SpawnNext, SpawnsOn, SpawnTells, spawn_next}
use Rattle.ds_plain.specs.Joining.{JoinNext, JoinsOn, Joined, FailsJoin, join_next}
use Rattle.ds_plain.specs.Accessing.{AccessNext, AccessesOn, Tells, access_next}
use Rattle.ds_plain.specs.Searching.{AllocNext, Looks, Takes, TakesNone, place_behind, alloc_next}
use Rattle.ds_plain.specs.Noting.{NoteNext, NotesOn, HasNoted, HasSkipped, FailsNote, note_next, is_notable}
use Rattle.ds_plain.specs.Freeing.{FreeNext, FreesOn, Freed, FailsFree, free_next, is_freeable}
use Rattle.ds_plain.specs.Table.{looking_for, position_of, is_over, step_at, end_by}
use Rattle.ds_plain.specs.Thread.{Thread, paying, standing, arriving, going_on, moved_from_access, moved_from_malloc}
use Rattle.ds_plain.specs.Thread.{moved_from_start, moved_from_spawn, moved_from_join, moved_from_note}
use Rattle.ds_plain.specs.Thread.{moved_from_free, freed_address, trap_kind, moved, first_cursors, first_thread}
use Rattle.ds_plain.specs.Turns.{is_end}
use Rattle.ds_plain.specs.Asking.{has_row, AsksRows, HasRows}
use Rattle.ds_plain.specs.Explained.{HasEnded}
use Rattle.ds_core.specs.Fits.{FitsAt, Fits, steps_left}
use Rattle.ds_core.proofs.Passing.{start_goes_on, spawn_goes_on, join_goes_on, access_goes_on, malloc_goes_on}
use Rattle.ds_core.proofs.Passing.{note_goes_on, free_goes_on}

-- a thread has come so far, with at least these units spent
record Comes (lim : Bounds) (units : ℕ) (behaves : Behaviour) (a : Thread) : Type 0 where
  at : FitsAt lim false a.position a.units
  rest : a.rest ≡ behaves
  left : steps_left lim.fuel a.position a.units ≤ suc (lim.fuel - units)

earlier : (lim : Bounds) (units more : ℕ) (behaves : Behaviour) (a : Thread) → units ≤ more
    → Comes lim more behaves a → Comes lim units behaves a
earlier lim units more behaves a le c = record { at = c.at; rest = c.rest; left = omega (arith, c.left, le) }

-- a thread that its fuel does not pay for stands at its last step
out_of_fuel : (lim : Bounds) (cursors : List ℕ) (behaves : Behaviour) (least units : ℕ) (began : Bool)
    → least ≤ units → units ≤ lim.fuel
    → Comes lim least behaves
    (record { rest = behaves; position = StoreEnded Fuel; units = units; began = began; cursors = cursors })
out_of_fuel lim cursors behaves least units began le inside =
    record { at = (refl, inside, tt); rest = refl; left = omega (arith, le, inside) }

paying_comes : (lim : Bounds) (cursors : List ℕ) (behaves : Behaviour) (units : ℕ) (began : Bool) (p : Position)
    → units ≤ lim.fuel → (units < lim.fuel → FitsAt lim false p units)
    → steps_left lim.fuel p units ≤ suc (lim.fuel - units)
    → Comes lim units behaves (paying lim cursors behaves units began p)
paying_comes lim cursors behaves units began p inside fits left =
    cond_both (nat_lt units lim.fuel) _ _ (λ (a : Thread). Comes lim units behaves a)
    (λ e. record { at = fits (ltb-true units lim.fuel e); rest = refl; left = left })
    (λ e. out_of_fuel lim cursors behaves units units began (omega arith) inside)

-- an end is one
abbrev EndsWell : Position → Type 0
EndsWell (Start at) = Unit {0}
EndsWell (Access at) = Unit {0}
EndsWell (Malloc at) = Unit {0}
EndsWell (Note at) = Unit {0}
EndsWell (Free at) = Unit {0}
EndsWell (Spawn at) = Unit {0}
EndsWell (Join at) = Unit {0}
EndsWell (DrawPrint value) = Unit {0}
EndsWell (StoreEnded stop) = HasEnded stop
EndsWell (Over stop) = ⊥
EndsWell NoRow = ⊥

standing_comes : (lim : Bounds) (cursors : List ℕ) (behaves : Behaviour) (units : ℕ) (began : Bool) (p : Position)
    → units ≤ lim.fuel → EndsWell p → Comes lim units behaves (standing lim cursors behaves units began p)
standing_comes lim cursors behaves units began (Start at) inside well =
    paying_comes lim cursors behaves units began (Start at) inside (λ lt. (refl, lt)) (omega arith)
standing_comes lim cursors behaves units began (Access at) inside well =
    paying_comes lim cursors behaves units began (Access at) inside (λ lt. (refl, lt)) (omega arith)
standing_comes lim cursors behaves units began (Malloc at) inside well =
    paying_comes lim cursors behaves units began (Malloc at) inside (λ lt. (refl, lt)) (omega arith)
standing_comes lim cursors behaves units began (Note at) inside well =
    paying_comes lim cursors behaves units began (Note at) inside (λ lt. (refl, lt)) (omega arith)
standing_comes lim cursors behaves units began (Free at) inside well =
    paying_comes lim cursors behaves units began (Free at) inside (λ lt. (refl, lt)) (omega arith)
standing_comes lim cursors behaves units began (Spawn at) inside well =
    paying_comes lim cursors behaves units began (Spawn at) inside (λ lt. (refl, lt)) (omega arith)
standing_comes lim cursors behaves units began (Join at) inside well =
    paying_comes lim cursors behaves units began (Join at) inside (λ lt. (refl, lt)) (omega arith)
standing_comes lim cursors behaves units began (DrawPrint value) inside well =
    paying_comes lim cursors behaves units began (DrawPrint value) inside (λ lt. (refl, lt)) (omega arith)
standing_comes lim cursors behaves units began (StoreEnded stop) inside well =
    record { at = (refl, inside, well); rest = refl; left = omega arith }
standing_comes lim cursors behaves units began (Over stop) inside well = absurd well
standing_comes lim cursors behaves units began NoRow inside well = absurd well

stop_ends : (stop : Stop) → not (is_over (end_by stop)) ≡ true → EndsWell (end_by stop)
stop_ends Idle row = cc
stop_ends Running row = cc
stop_ends (Returned value) row = tt
stop_ends (Trap trap) row = tt
stop_ends (Full place what) row = cc
stop_ends Fuel row = cc

malloc_ends : (cursors : List ℕ) (class : Option ℕ) → not (is_over (looking_for cursors class)) ≡ true
    → EndsWell (looking_for cursors class)
malloc_ends cursors None row = cc
malloc_ends cursors (Some class) row = tt

note_ends : (b : Bool) (loc value : ℕ) → not (is_over (if b then Note (notes.LoadPage loc value) else NoRow)) ≡ true
    → EndsWell (if b then Note (notes.LoadPage loc value) else NoRow)
note_ends true loc value row = tt
note_ends false loc value row = cc

free_ends : (b : Bool) (address : ℕ) → not (is_over (if b then Free (frees.LoadPage address) else NoRow)) ≡ true
    → EndsWell (if b then Free (frees.LoadPage address) else NoRow)
free_ends true address row = tt
free_ends false address row = cc

request_ends : (lim : Bounds) (cursors : List ℕ) (request : Request)
    → not (is_over (position_of lim cursors request)) ≡ true → EndsWell (position_of lim cursors request)
request_ends lim cursors (requests.Load access) row = tt
request_ends lim cursors (requests.Store access value) row = tt
request_ends lim cursors (requests.Rmw access op value) row = tt
request_ends lim cursors (requests.Cas access expected new) row = tt
request_ends lim cursors (requests.Malloc bytes) row = malloc_ends cursors (class_of bytes) row
request_ends lim cursors (requests.Free address) row = free_ends (is_freeable lim address) address row
request_ends lim cursors (requests.Note loc value) row = note_ends (is_notable lim loc value) loc value row
request_ends lim cursors (requests.Print value) row = tt
request_ends lim cursors (requests.Spawn loc function arg) row = tt
request_ends lim cursors (requests.Join number) row = tt
request_ends lim cursors (requests.Stop stop) row = stop_ends stop row

arriving_comes : (lim : Bounds) (cursors : List ℕ) (behaves : Behaviour) (units : ℕ) (asked : Asked) → units ≤ lim.fuel
    → has_row lim cursors asked ≡ true → Comes lim units behaves (arriving lim cursors behaves units asked)
arriving_comes lim cursors behaves units (Asks begun place request) inside row =
    cond_both (nat_le (units + begun) lim.fuel) _ _ (λ (a : Thread). Comes lim units behaves a)
    (λ e. earlier lim units (units + begun) behaves _ (omega arith)
    (standing_comes lim cursors behaves (units + begun) true (position_of lim cursors request) (leb-true _ _ e)
    (request_ends lim cursors request row)))
    (λ e. out_of_fuel lim cursors behaves units lim.fuel true inside (omega arith))
arriving_comes lim cursors behaves units Silent inside row =
    out_of_fuel lim cursors behaves units lim.fuel true inside (omega arith)

goes_on : (lim : Bounds) (cursors : List ℕ) (units : ℕ) (behaves : Behaviour) → units ≤ lim.fuel
    → AsksRows lim behaves → Comes lim units behaves (going_on lim cursors units behaves)
goes_on lim cursors units behaves inside rows =
    arriving_comes lim cursors behaves units (behaves []) inside (rows cursors [])

-- a step has led from one place to another: the thread has ended or not, and is nearer to its end
pub record Moves (lim : Bounds) (ended : Bool) (before : ℕ) (a : Thread) : Type 0 where
  pub fits : Fits lim ended a
  pub fewer : steps_left lim.fuel a.position a.units < before

comes_nearer : (lim : Bounds) (units : ℕ) (behaves : Behaviour) (a : Thread) → units < lim.fuel → AsksRows lim behaves
    → Comes lim (units + 1) behaves a → Moves lim false (suc (lim.fuel - units)) a
comes_nearer lim units behaves a paid rows c = record {
  fits = record { at = c.at; rows = subst (AsksRows lim) (sym c.rest) rows };
  fewer = omega (arith, c.left, paid);
}

-- a thread that is told an answer
told_nearer : (lim : Bounds) (cursors : List ℕ) (units answer : ℕ) (behaves : Behaviour) → units < lim.fuel
    → AsksRows lim behaves
    → Moves lim false (suc (lim.fuel - units)) (going_on lim cursors (units + 1) (told behaves answer))
told_nearer lim cursors units answer behaves paid asks =
    comes_nearer lim units (told behaves answer) _ paid (λ cs answers. asks cs (answer ∷ answers))
    (goes_on lim cursors (units + 1) (told behaves answer) (omega (arith, paid)) (λ cs answers. asks cs (answer ∷ answers)))

-- a thread that has not begun goes on, or begins
start_moves : (program : Program) (lim : Bounds) (t : ℕ) (a : Thread) (next : StartNext) → HasRows lim program
    → a.units < lim.fuel → AsksRows lim a.rest
    → Moves lim false (suc (lim.fuel - a.units)) (moved_from_start program lim t a next)
start_moves program lim t a (StartsOn at) rows paid asks =
    comes_nearer lim a.units a.rest _ paid asks
    (standing_comes lim a.cursors a.rest (a.units + 1) a.began (Start at) (omega (arith, paid)) tt)
start_moves program lim t a (Begins function argument) rows paid asks =
    let behaves : Behaviour = program.behaves t function argument in
    comes_nearer lim a.units behaves _ paid (rows t function argument)
    (goes_on lim a.cursors (a.units + 1) behaves (omega (arith, paid)) (rows t function argument))

-- a thread that starts another one goes on, or is told an answer
spawn_moves : (lim : Bounds) (a : Thread) (next : SpawnNext) → a.units < lim.fuel → AsksRows lim a.rest
    → Moves lim false (suc (lim.fuel - a.units)) (moved_from_spawn lim a next)
spawn_moves lim a (SpawnsOn at) paid asks =
    comes_nearer lim a.units a.rest _ paid asks
    (standing_comes lim a.cursors a.rest (a.units + 1) a.began (Spawn at) (omega (arith, paid)) tt)
spawn_moves lim a (SpawnTells answer) paid asks = told_nearer lim a.cursors a.units answer a.rest paid asks

-- a thread that waits for another one goes on, is done, or stops
join_moves : (lim : Bounds) (a : Thread) (next : JoinNext) → a.units < lim.fuel → AsksRows lim a.rest
    → Moves lim false (suc (lim.fuel - a.units)) (moved_from_join lim a next)
join_moves lim a (JoinsOn at) paid asks =
    comes_nearer lim a.units a.rest _ paid asks
    (standing_comes lim a.cursors a.rest (a.units + 1) a.began (Join at) (omega (arith, paid)) tt)
join_moves lim a Joined paid asks = told_nearer lim a.cursors a.units 0 a.rest paid asks
join_moves lim a (FailsJoin number) paid asks =
    comes_nearer lim a.units a.rest _ paid asks
    (standing_comes lim a.cursors a.rest (a.units + 1) a.began
    (StoreEnded (trap_stop (place_in_text (a.rest [])) (BadJoin number))) (omega (arith, paid)) tt)

-- an access goes on, or is told an answer; no event of it is an end
access_moves : (lim : Bounds) (a : Thread) (next : AccessNext) → a.units < lim.fuel → AsksRows lim a.rest
    → Moves lim false (suc (lim.fuel - a.units)) (moved_from_access lim a next)
access_moves lim a (AccessesOn at) paid asks =
    comes_nearer lim a.units a.rest _ paid asks
    (standing_comes lim a.cursors a.rest (a.units + 1) a.began (Access at) (omega (arith, paid)) tt)
access_moves lim a (Tells answer) paid asks = told_nearer lim a.cursors a.units answer a.rest paid asks

-- a malloc goes on, or is told an answer; no event of it is an end
malloc_moves : (lim : Bounds) (a : Thread) (next : AllocNext) → a.units < lim.fuel → AsksRows lim a.rest
    → Moves lim false (suc (lim.fuel - a.units)) (moved_from_malloc lim a next)
malloc_moves lim a (Looks at) paid asks =
    comes_nearer lim a.units a.rest _ paid asks
    (standing_comes lim a.cursors a.rest (a.units + 1) a.began (Malloc at) (omega (arith, paid)) tt)
malloc_moves lim a (Takes class place life) paid asks =
    told_nearer lim (slice_set a.cursors class (place_behind lim class place)) a.units (block_start place class) a.rest
    paid asks
malloc_moves lim a TakesNone paid asks = told_nearer lim a.cursors a.units 0 a.rest paid asks

-- a note goes on, is told an answer, or stops its thread; no event of it is an end
note_moves : (lim : Bounds) (a : Thread) (next : NoteNext) → a.units < lim.fuel → AsksRows lim a.rest
    → Moves lim false (suc (lim.fuel - a.units)) (moved_from_note lim a next)
note_moves lim a (NotesOn at) paid asks =
    comes_nearer lim a.units a.rest _ paid asks
    (standing_comes lim a.cursors a.rest (a.units + 1) a.began (Note at) (omega (arith, paid)) tt)
note_moves lim a HasNoted paid asks = told_nearer lim a.cursors a.units 0 a.rest paid asks
note_moves lim a HasSkipped paid asks = told_nearer lim a.cursors a.units 0 a.rest paid asks
note_moves lim a (FailsNote what) paid asks =
    comes_nearer lim a.units a.rest _ paid asks
    (standing_comes lim a.cursors a.rest (a.units + 1) a.began
    (StoreEnded (Full (place_in_text (a.rest [])) what)) (omega (arith, paid)) tt)

free_moves : (lim : Bounds) (a : Thread) (address : ℕ) (next : FreeNext) → a.units < lim.fuel → AsksRows lim a.rest
    → Moves lim false (suc (lim.fuel - a.units)) (moved_from_free lim a address next)
free_moves lim a address (FreesOn at) paid asks =
    comes_nearer lim a.units a.rest _ paid asks
    (standing_comes lim a.cursors a.rest (a.units + 1) a.began (Free at) (omega (arith, paid)) tt)
free_moves lim a address Freed paid asks = told_nearer lim a.cursors a.units 0 a.rest paid asks
free_moves lim a address (FailsFree trap) paid asks =
    comes_nearer lim a.units a.rest _ paid asks
    (standing_comes lim a.cursors a.rest (a.units + 1) a.began
    (StoreEnded (trap_stop (place_in_text (a.rest [])) (trap_kind address trap))) (omega (arith, paid)) tt)

moves_from : (program : Program) (lim : Bounds) (t : ℕ) (behaves : Behaviour) (p : Position) (units : ℕ) (began : Bool)
    (cursors : List ℕ) (old : ℕ) → HasRows lim program → FitsAt lim false p units → AsksRows lim behaves
    → Moves lim (is_end (step_at lim t p old)) (steps_left lim.fuel p units) (moved program lim t
    (record { rest = behaves; position = p; units = units; began = began; cursors = cursors }) old)
moves_from program lim t behaves (Start at) units began cursors old rows fits asks =
    let a : Thread =
    record { rest = behaves; position = Start at; units = units; began = began; cursors = cursors } in
    subst (λ b. Moves lim b (suc (lim.fuel - units)) (moved_from_start program lim t a (start_next program t at old)))
    (sym (start_goes_on t at old)) (start_moves program lim t a (start_next program t at old) rows fits.1 asks)
moves_from program lim t behaves (Access at) units began cursors old rows fits asks =
    let a : Thread =
    record { rest = behaves; position = Access at; units = units; began = began; cursors = cursors } in
    subst (λ b. Moves lim b (suc (lim.fuel - units)) (moved_from_access lim a (access_next at old)))
    (sym (access_goes_on at old)) (access_moves lim a (access_next at old) fits.1 asks)
moves_from program lim t behaves (Malloc at) units began cursors old rows fits asks =
    let a : Thread =
    record { rest = behaves; position = Malloc at; units = units; began = began; cursors = cursors } in
    subst (λ b. Moves lim b (suc (lim.fuel - units)) (moved_from_malloc lim a (alloc_next lim at old)))
    (sym (malloc_goes_on lim at old)) (malloc_moves lim a (alloc_next lim at old) fits.1 asks)
moves_from program lim t behaves (Note at) units began cursors old rows fits asks =
    let a : Thread =
    record { rest = behaves; position = Note at; units = units; began = began; cursors = cursors } in
    subst (λ b. Moves lim b (suc (lim.fuel - units)) (moved_from_note lim a (note_next lim at old)))
    (sym (note_goes_on lim at old)) (note_moves lim a (note_next lim at old) fits.1 asks)
moves_from program lim t behaves (Free at) units began cursors old rows fits asks =
    let a : Thread =
    record { rest = behaves; position = Free at; units = units; began = began; cursors = cursors } in
    subst (λ b. Moves lim b (suc (lim.fuel - units)) (moved_from_free lim a (freed_address at) (free_next at old)))
    (sym (free_goes_on at old)) (free_moves lim a (freed_address at) (free_next at old) fits.1 asks)
moves_from program lim t behaves (Spawn at) units began cursors old rows fits asks =
    let a : Thread =
    record { rest = behaves; position = Spawn at; units = units; began = began; cursors = cursors } in
    subst (λ b. Moves lim b (suc (lim.fuel - units)) (moved_from_spawn lim a (spawn_next at old)))
    (sym (spawn_goes_on at old)) (spawn_moves lim a (spawn_next at old) fits.1 asks)
moves_from program lim t behaves (Join at) units began cursors old rows fits asks =
    let a : Thread =
    record { rest = behaves; position = Join at; units = units; began = began; cursors = cursors } in
    subst (λ b. Moves lim b (suc (lim.fuel - units)) (moved_from_join lim a (join_next t at old)))
    (sym (join_goes_on t at old)) (join_moves lim a (join_next t at old) fits.1 asks)
moves_from program lim t behaves (DrawPrint value) units began cursors old rows fits asks =
    told_nearer lim cursors units 0 behaves fits.1 asks
moves_from program lim t behaves (StoreEnded stop) units began cursors old rows fits asks =
    record { fits = record { at = (refl, fits.2); rows = asks }; fewer = omega arith }
moves_from program lim t behaves (Over stop) units began cursors old rows fits asks = cc
moves_from program lim t behaves NoRow units began cursors old rows fits asks = absurd fits

-- the step of a thread that has not ended
pub moves : (program : Program) (lim : Bounds) (t : ℕ) (a : Thread) (old : ℕ) → HasRows lim program → Fits lim false a
    → Moves lim (is_end (step_at lim t a.position old)) (steps_left lim.fuel a.position a.units)
    (moved program lim t a old)
moves program lim t a old rows fits =
    moves_from program lim t a.rest a.position a.units a.began a.cursors old rows fits.at fits.rows

-- a thread that has not ended makes a step
pub goes : (lim : Bounds) (p : Position) (units : ℕ) → FitsAt lim false p units → is_over p ≡ false
goes lim (Start at) units fits = refl
goes lim (Access at) units fits = refl
goes lim (Malloc at) units fits = refl
goes lim (Note at) units fits = refl
goes lim (Free at) units fits = refl
goes lim (Spawn at) units fits = refl
goes lim (Join at) units fits = refl
goes lim (DrawPrint value) units fits = refl
goes lim (StoreEnded stop) units fits = refl
goes lim (Over stop) units fits = cc
goes lim NoRow units fits = absurd fits

-- a thread before its first step
pub fits_first : (lim : Bounds) → Fits lim false (first_thread lim)
fits_first lim =
    let c : Comes lim 0 _ (first_thread lim) =
    standing_comes lim first_cursors _ 0 false (Start LoadStart) (omega arith) tt in
    record { at = c.at; rows = subst (AsksRows lim) (sym c.rest) (λ cursors answers. refl) }
