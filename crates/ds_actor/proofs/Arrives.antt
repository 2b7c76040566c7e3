-- An actor stands where the thread of the step table comes.
use Rattle.std.proofs.Common.{◌≡◌, ℕ, suc, ◌+◌, ◌%◌, ◌^◌, Bool, true, false, if◌then◌else◌, nat_lt, nat_le, List, []}
use Rattle.std.proofs.Common.{◌∷◌, Option, Some, None, slice_index}
use Rattle.std.proofs.Common.{refl, sym, ap, subst, ◌∙◌, arith}
use Rattle.ds_map.specs.Bounds.{Bounds}
use Rattle.ds_map.specs.Blocks.{class_of}
use Rattle.ds_plain.specs.declared.Place.{Place}
use Rattle.ds_plain.specs.declared.Stop.{Stop}
use Rattle.ds_plain.specs.declared.Stop.TheVariants.{Idle, Returned, Trap, Full, Fuel}
use Rattle.ds_plain.specs.declared.Stop.TheVariants as stops
use Rattle.ds_plain.specs.declared.Request.{Request}
use Rattle.ds_plain.specs.declared.Request.TheVariants as requests
use Rattle.ds_plain.specs.declared.AccessAt.{AccessAt}
use Rattle.ds_plain.specs.declared.AccessAt.TheVariants.{LoadWord, StoreWord, CombineWord, ReplaceWord}
use Rattle.ds_plain.specs.declared.Change.TheVariants.{Put, Combine, Replace}
use Rattle.ds_plain.specs.declared.Position.{Position}
use Rattle.ds_plain.specs.declared.SpawnAt.TheVariants.{DrawThread}
use Rattle.ds_plain.specs.declared.JoinAt.TheVariants.{LoadGiven}
use Rattle.ds_plain.specs.declared.Position.TheVariants.{Start, Malloc, Note, Free, Spawn, Join, DrawPrint}
use Rattle.ds_plain.specs.declared.Position.TheVariants.{StoreEnded, Over, NoRow}
use Rattle.ds_plain.specs.declared.Position.TheVariants as positions
use Rattle.ds_plain.specs.Behaviour.{Asked, Asks, Silent, Behaviour, silent, told, behaviour, place_in_text}
use Rattle.ds_plain.specs.Accessing.{changing_at}
use Rattle.ds_plain.specs.declared.AllocAt.TheVariants as allocs
use Rattle.ds_plain.specs.declared.NoteAt.TheVariants as noting
use Rattle.ds_plain.specs.declared.FreeAt.TheVariants as freeing
use Rattle.ds_plain.specs.Searching.{search_from}
use Rattle.ds_plain.specs.Noting.{is_notable}
use Rattle.ds_plain.specs.Freeing.{is_freeable}
use Rattle.ds_plain.specs.Table.{looking_for, position_of, end_by}
use Rattle.ds_plain.specs.Thread.{Thread, standing, going_on}
use Rattle.ds_code.specs.declared.functions.CodeParts.{CodeParts}
use Rattle.ds_code.specs.Machine.{Running, Machine}
use Rattle.ds_code.specs.CodeMeaning.{step}
use Rattle.ds_code.specs.CodeProgram.{behaves}
use Rattle.ds_frame.specs.Steps.{answered_at}
use Rattle.ds_frame.specs.Threads.{ThreadState, runs, Serves, Comes, Arrival, arrival, arrival_of, out_of_fuel}
use Rattle.ds_frame.specs.Threads.{is_stop}
use Rattle.ds_actor.specs.Actors.{actor_with, stands_at, wanted_position, GoesOn, IsAt, IsSame}

-- WHERE A THREAD STANDS

-- a thread at this position where its fuel pays, and else at its last step
abbrev at_test : (cursors : List ℕ) → Behaviour → (units : ℕ) → (began : Bool) → Position → (pays : Bool) → Thread
at_test cursors rest units began p pays =
    if pays then record { rest = rest; position = p; units = units; began = began; cursors = cursors }
    else record { rest = rest; position = StoreEnded Fuel; units = units; began = began; cursors = cursors }

record Parts (cursors : List ℕ) (rest : Behaviour) (units : ℕ) (p : Position) (a : Thread) : Type 0 where
  behaves : a.rest ≡ rest
  spent : a.units ≡ units
  began : a.began ≡ true
  place : a.position ≡ p
  looks : a.cursors ≡ cursors

parts_by : (cursors : List ℕ) (rest : Behaviour) (units : ℕ) (p : Position) (pays : Bool)
    → Parts cursors rest units (at_test [] silent units false p pays).position (at_test cursors rest units true p pays)
parts_by cursors rest units p true =
    record { behaves = refl; spent = refl; began = refl; place = refl; looks = refl }
parts_by cursors rest units p false =
    record { behaves = refl; spent = refl; began = refl; place = refl; looks = refl }

parts : (lim : Bounds) (cursors : List ℕ) (rest : Behaviour) (units : ℕ) (p : Position)
    → Parts cursors rest units (stands_at lim units p) (standing lim cursors rest units true p)
parts lim cursors rest units (Start at) = parts_by cursors rest units (Start at) (nat_lt units lim.fuel)
parts lim cursors rest units (positions.Access at) =
    parts_by cursors rest units (positions.Access at) (nat_lt units lim.fuel)
parts lim cursors rest units (Malloc at) = parts_by cursors rest units (Malloc at) (nat_lt units lim.fuel)
parts lim cursors rest units (Note at) = parts_by cursors rest units (Note at) (nat_lt units lim.fuel)
parts lim cursors rest units (Free at) = parts_by cursors rest units (Free at) (nat_lt units lim.fuel)
parts lim cursors rest units (Spawn at) = parts_by cursors rest units (Spawn at) (nat_lt units lim.fuel)
parts lim cursors rest units (Join at) = parts_by cursors rest units (Join at) (nat_lt units lim.fuel)
parts lim cursors rest units (DrawPrint value) =
    parts_by cursors rest units (DrawPrint value) (nat_lt units lim.fuel)
parts lim cursors rest units (StoreEnded stop) =
    record { behaves = refl; spent = refl; began = refl; place = refl; looks = refl }
parts lim cursors rest units (Over stop) =
    record { behaves = refl; spent = refl; began = refl; place = refl; looks = refl }
parts lim cursors rest units NoRow = parts_by cursors rest units NoRow (nat_lt units lim.fuel)

-- HOW IT GOES ON

module _ (r : Running) (q : Machine) (place : Place) (rest : Behaviour) (lim : Bounds) (cursors : List ℕ)
    (units : ℕ) where
  goes_by : (p : Position) (pays : Bool) → GoesOn r q place rest p
      → GoesOn r q place rest (at_test [] silent units false p pays).position
  goes_by p true here = here
  goes_by p false here = tt

  accessing : (at : AccessAt) → Serves r q rest
      → GoesOn r q place rest (stands_at lim units (positions.Access at))
  accessing at serves = goes_by (positions.Access at) (nat_lt units lim.fuel) serves

  taking : (class : Option ℕ) → Serves r q rest
      → GoesOn r q place rest (stands_at lim units (looking_for cursors class))
  taking None serves = goes_by NoRow (nat_lt units lim.fuel) tt
  taking (Some class) serves =
      goes_by (Malloc (allocs.LoadPage (search_from class (slice_index cursors class)))) (nat_lt units lim.fuel) serves

  noting_by : (b : Bool) (loc value : ℕ) → Serves r q rest → place ≡ place_in_text (rest [])
      → GoesOn r q place rest (stands_at lim units (if b then Note (noting.LoadPage loc value) else NoRow))
  noting_by true loc value serves known =
      goes_by (Note (noting.LoadPage loc value)) (nat_lt units lim.fuel) (serves, known)
  noting_by false loc value serves known = goes_by NoRow (nat_lt units lim.fuel) tt

  freeing_by : (b : Bool) (address : ℕ) → Serves r q rest → place ≡ place_in_text (rest [])
      → GoesOn r q place rest (stands_at lim units (if b then Free (freeing.LoadPage address) else NoRow))
  freeing_by true address serves known =
      goes_by (Free (freeing.LoadPage address)) (nat_lt units lim.fuel) (serves, known)
  freeing_by false address serves known = goes_by NoRow (nat_lt units lim.fuel) tt

  stopping : (stop : Stop) → GoesOn r q place rest (stands_at lim units (end_by stop))
  stopping Idle = goes_by NoRow (nat_lt units lim.fuel) tt
  stopping stops.Running = goes_by NoRow (nat_lt units lim.fuel) tt
  stopping (Returned value) = tt
  stopping (Trap trap) = tt
  stopping (Full place what) = goes_by NoRow (nat_lt units lim.fuel) tt
  stopping Fuel = goes_by NoRow (nat_lt units lim.fuel) tt

  goes : (request : Request) → (is_stop request ≡ false → Serves r q rest)
      → (is_stop request ≡ false → place ≡ place_in_text (rest []))
      → GoesOn r q place rest (stands_at lim units (position_of lim cursors request))
  goes (requests.Load access) serves known = accessing (LoadWord access.loc) (serves refl)
  goes (requests.Store access value) serves known =
      accessing (changing_at access (StoreWord access.loc value) (Put value)) (serves refl)
  goes (requests.Rmw access op value) serves known =
      accessing (changing_at access (CombineWord access.loc op value) (Combine op value)) (serves refl)
  goes (requests.Cas access expected new) serves known =
      accessing (changing_at access (ReplaceWord access.loc expected new) (Replace expected new)) (serves refl)
  goes (requests.Malloc bytes) serves known = taking (class_of bytes) (serves refl)
  goes (requests.Free address) serves known = freeing_by (is_freeable lim address) address (serves refl) (known refl)
  goes (requests.Note loc value) serves known =
      noting_by (is_notable lim loc value) loc value (serves refl) (known refl)
  goes (requests.Print value) serves known = goes_by (DrawPrint value) (nat_lt units lim.fuel) (serves refl)
  goes (requests.Spawn loc function arg) serves known =
      goes_by (Spawn (DrawThread loc function arg)) (nat_lt units lim.fuel) (serves refl)
  goes (requests.Join number) serves known =
      goes_by (Join (LoadGiven number)) (nat_lt units lim.fuel) (serves refl, known refl)
  goes (requests.Stop stop) serves known = stopping stop

-- a thread that arrives at a request knows its place
arrived_place : (fuel : ℕ) (place : Place) (units : ℕ) (asked : Asked)
    → is_stop (arrival fuel place units asked).want ≡ false → (arrival fuel place units asked).place ≡ place_in_text asked
arrived_place fuel place units (Asks begun there request) e =
    by (nat_le (units + begun) fuel) (record { want = request; place = there; units = units + begun }) refl e
  where
    by : (pays : Bool) (here : Arrival) → here.place ≡ there
        → is_stop (if pays then here else out_of_fuel fuel place).want ≡ false
        → (if pays then here else out_of_fuel fuel place).place ≡ there
    by true here is e' = is
    by false here is e' = absurd (cc (e'))
arrived_place fuel place units Silent e = absurd (cc (e))

-- ARRIVING

come : (code : CodeParts) (old new : ThreadState) (rest : Behaviour) (position : Position) (cursors : List ℕ)
    → position ≡ stands_at old.lim new.units (wanted_position old.lim cursors new.want) → Comes code old new rest
    → IsAt code (actor_with new position cursors) (going_on old.lim cursors old.units rest)
come code old new rest position cursors here c =
    let arrived : Arrival = arrival_of old rest in
    let request = arrived.want in
    let units = arrived.units in
    let p : Position = position_of old.lim cursors request in
    let s : Thread = standing old.lim cursors rest units true p in
    let known = parts old.lim cursors rest units p in
    let r : Running = runs code old in
    let at : position ≡ stands_at old.lim units p =
    here ∙ ap (λ (n : ThreadState). stands_at old.lim n.units (wanted_position old.lim cursors n.want)) c.arrives in
    let on : GoesOn r new.machine arrived.place s.rest position =
    subst (λ (x : Position). GoesOn r new.machine arrived.place s.rest x) (sym at)
    (subst (λ (b : Behaviour). GoesOn r new.machine arrived.place b (stands_at old.lim units p)) (sym known.behaves)
    (goes r new.machine arrived.place rest old.lim cursors units request c.serves
    (arrived_place old.lim.fuel old.place old.units (rest [])))) in
    subst (λ (a : Thread). IsAt code (actor_with new position cursors) a) (c.stands cursors)
    (subst (λ (n : ThreadState). IsAt code (actor_with n position cursors) s) (sym c.arrives) (record {
      position = at ∙ sym known.place;
      units = sym known.spent;
      began = sym known.began;
      goes_on = on;
      cursors = sym known.looks;
    }))

-- the unit of a step was counted before
module _ (code : CodeParts) (old mid new : ThreadState) (lim : Bounds) (position : Position) (cursors : List ℕ)
    (spent : mid ≡ record old { units = suc old.units }) (same : old.lim ≡ lim)
    (here : position ≡ stands_at lim new.units (wanted_position lim cursors new.want)) where
  come_on : (rest : Behaviour) → Comes code (record old { units = suc old.units }) new rest
      → IsAt code (actor_with new position cursors) (going_on old.lim cursors (old.units + 1) rest)
  come_on rest c =
      let one : suc old.units ≡ old.units + 1 = omega arith in
      subst (λ (n : ℕ). IsAt code (actor_with new position cursors) (going_on old.lim cursors n rest)) one
      (come code (record old { units = suc old.units }) new rest position cursors
      (here ∙ ap (λ (l : Bounds). stands_at l new.units (wanted_position l cursors new.want)) (sym same)) c)

  pub begun : (function argument : ℕ) → Comes code mid new (behaves (runs code mid) function argument)
      → IsAt code (actor_with new position cursors)
      (going_on old.lim cursors (old.units + 1) (behaves (runs code old) function argument))
  begun function argument c =
      come_on (behaves (runs code old) function argument)
      (subst (λ (m : ThreadState). Comes code m new (behaves (runs code m) function argument)) spent c)

  pub resumed : (value : ℕ)
      → ((rest : Behaviour) → Serves (runs code mid) mid.machine rest → Comes code mid new (told rest value))
      → (rest : Behaviour) → Serves (runs code old) old.machine rest
      → IsAt code (actor_with new position cursors) (going_on old.lim cursors (old.units + 1) (told rest value))
  resumed value law rest serves =
      come_on (told rest value)
      (subst (λ (m : ThreadState). (rest : Behaviour) → Serves (runs code m) m.machine rest
      → Comes code m new (told rest value)) spent law rest serves)

-- WHAT IS KEPT

-- a behaviour that goes on as a thread does that stands there
abbrev pub served : Running → Machine → Behaviour
served r q [] = Silent
served r q (answer ∷ more) = behaviour (step r) r.lim.fuel (answered_at r q (answer % 2 ^ 64)) more

pub serves : (r : Running) (q : Machine) → Serves r q (served r q)
serves r q = λ answer more. refl

pub kept : (code : CodeParts) (old mid new : ThreadState) (rest : Behaviour)
    → mid ≡ record old { units = suc old.units } → Comes code mid new rest → IsSame old new
kept code old mid new rest spent c = record {
  lim = ap (λ (n : ThreadState). n.lim) c.arrives ∙ ap (λ (m : ThreadState). m.lim) spent;
  number = ap (λ (n : ThreadState). n.number) c.arrives ∙ ap (λ (m : ThreadState). m.number) spent;
  row = ap (λ (n : ThreadState). n.row) c.arrives ∙ ap (λ (m : ThreadState). m.row) spent;
}
