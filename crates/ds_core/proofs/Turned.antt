-- One turn more.
use Rattle.std.proofs.Common.{◌≡◌, ℕ, zero, suc, ◌+◌, ◌<◌, Bool, true, false, if◌then◌else◌, List, [], ◌∷◌, ◌++◌}
use Rattle.std.proofs.Common.{length, slice_set, slice_get, slice_index_or, Some, refl, ap}
use Rattle.std.proofs.Common.{sym, subst}
use Rattle.std.proofs.Common.{◌∙◌, arith, inl, inr, ◌⊎◌, not}
use Rattle.std.specs.Prelude.{min}
use Rattle.std.proofs.lemmas.Bool.{cond_both, cases_eq, ltb-true, and_parts, eq-eqb, ne_eqb}
use Rattle.std.proofs.lemmas.List.{length-set, append_assoc, map-append}
use Rattle.std.proofs.lemmas.Option.{same_Some, none-some, slice_get_read}
use Rattle.ds_map.specs.Bounds.{Bounds}
use Rattle.ds_map.specs.Words.{words as words_of}
use Rattle.ds_step.specs.declared.Step.{Step}
use Rattle.ds_step.specs.Word.{words_after, answer_on}
use Rattle.ds_plain.specs.declared.Cue.{Cue}
use Rattle.ds_plain.specs.declared.Position.{Position}
use Rattle.ds_plain.specs.declared.Position.TheVariants.{Start, Access, Malloc, Note, Free, Spawn, Join}
use Rattle.ds_plain.specs.declared.Position.TheVariants.{DrawPrint, StoreEnded, Over, NoRow}
use Rattle.ds_plain.specs.State.{replaced}
use Rattle.ds_plain.specs.Table.{op_at, step_at, is_over}
use Rattle.ds_plain.specs.Thread.{Thread, moved}
use Rattle.ds_plain.specs.History.{History}
use Rattle.ds_plain.specs.Turns.{Turns, Passing, Gives, Ends, Neither, passing_of, is_not_yet, is_end, ends_thread}
use Rattle.ds_plain.specs.Turns.{first_turns, may_turn, next_turn, turns_by, turns_behind, standing_cues}
use Rattle.ds_plain.specs.Turns.{ended_behind, IsTurnByTurn}
use Rattle.ds_plain.specs.Asking.{HasRows}
use Rattle.ds_plain.specs.Stands.{Stands}
use Rattle.ds_plain_laws.specs.Laws.{OneStepMore}
use Rattle.ds_code.specs.declared.functions.CodeParts.{CodeParts}
use Rattle.ds_code.specs.CodeProgram.{program_of}
use Rattle.ds_actor.specs.Actors.{ActorState, IsAt, IsSame, waiting, turn_by, turn_at, step_in}
use Rattle.ds_schedule.specs.Standing.{Standing, StandsAt, main_has_ended}
use Rattle.ds_core.specs.Fits.{Fits, steps_left}
use Rattle.ds_core.specs.Standing.{IsActor, Runs, all_left}
use Rattle.ds_core.proofs.Moves.{Moves, moves, goes}

-- SCHEDULES

-- a thread that may have a turn is one of 16, and has not ended
pub few_by : (turns : Turns) (t : ℕ) → may_turn turns t ≡ true → t < 16
few_by turns t may =
    let below : t < min turns.given 16 = ltb-true t (min turns.given 16) (and_parts _ _ may).0 in omega (arith, below)

goes_by : (b : Bool) → not b ≡ true → b ≡ false
goes_by true may = absurd (cc (may))
goes_by false may = refl

pub not_ended_by : (turns : Turns) (t : ℕ) → may_turn turns t ≡ true → turns.ended t ≡ false
not_ended_by turns t may = goes_by (turns.ended t) (and_parts _ _ may).1

-- behind its step it has ended where the step is its last
ended_by : (passing : Passing) (t : ℕ) (ended : ℕ → Bool) → ended t ≡ false
    → ends_thread passing ≡ ended_behind passing t ended t
ended_by Gives t ended not_yet = sym not_yet
ended_by Ends t ended not_yet = sym (ap (λ (b : Bool). if b then true else ended t) (eq-eqb t t refl))
ended_by Neither t ended not_yet = sym not_yet

ended_then : (turns : Turns) (t : ℕ) (step : Step) (cues : List Cue) → turns.ended t ≡ false
    → is_end step ≡ (turns_by turns t step cues).ended t
ended_then turns t step [] not_yet = ended_by (passing_of step.event) t turns.ended not_yet
ended_then turns t step (cue ∷ cues) not_yet = ended_by (passing_of step.event) t turns.ended not_yet

-- and the others have ended or not as before
others_by : (passing : Passing) (t : ℕ) (ended : ℕ → Bool) (u : ℕ) → (t ≡ u → ⊥)
    → ended_behind passing t ended u ≡ ended u
others_by Gives t ended u ne = refl
others_by Ends t ended u ne = ap (λ (b : Bool). if b then true else ended u) (ne_eqb t u ne)
others_by Neither t ended u ne = refl

others_then : (turns : Turns) (t : ℕ) (step : Step) (cues : List Cue) (u : ℕ) → (t ≡ u → ⊥)
    → (turns_by turns t step cues).ended u ≡ turns.ended u
others_then turns t step [] u ne = others_by (passing_of step.event) t turns.ended u ne
others_then turns t step (cue ∷ cues) u ne = others_by (passing_of step.event) t turns.ended u ne

-- ACTORS

-- what is so of an actor's limits, number and position is so of the thread's
there : (P : Bounds → ℕ → Position → Type 0) (lim lim' : Bounds) (t t' : ℕ) (p p' : Position) → lim ≡ lim' → t ≡ t'
    → p ≡ p' → P lim t p → P lim' t' p'
there P lim lim' t t' p p' bounds number position holds =
    subst (λ (x : Position). P lim' t' x) position
    (subst (λ (x : ℕ). P lim' x p) number (subst (λ (x : Bounds). P x t p) bounds holds))

step_waiting : (step : Step) → step_in (waiting step) ≡ step
step_waiting step = cond_both (is_not_yet step) _ _ (λ turn. step_in turn ≡ step) (λ e. refl) (λ e. refl)

step_turned : (p : Position) (step : Step) → step_in (turn_by p step) ≡ step
step_turned (Start at) step = step_waiting step
step_turned (Access at) step = step_waiting step
step_turned (Malloc at) step = step_waiting step
step_turned (Note at) step = step_waiting step
step_turned (Free at) step = step_waiting step
step_turned (Spawn at) step = step_waiting step
step_turned (Join at) step = step_waiting step
step_turned (DrawPrint value) step = step_waiting step
step_turned (StoreEnded stop) step = refl
step_turned (Over stop) step = step_waiting step
step_turned NoRow step = step_waiting step

-- what stands in a list with one element replaced
get_set : (xs : List ActorState) (i j : ℕ) (y x : ActorState) → slice_get (slice_set xs i y) j ≡ Some x
    → ((i ≡ j) × (y ≡ x)) ⊎ ((i ≡ j → ⊥) × (slice_get xs j ≡ Some x))
get_set [] i j y x found = absurd (none-some x found)
get_set (z ∷ zs) zero zero y x found = inl (refl, same_Some y x found)
get_set (z ∷ zs) zero (suc j) y x found = inr (λ e. cc, found)
get_set (z ∷ zs) (suc i) zero y x found = inr (λ e. cc, found)
get_set (z ∷ zs) (suc i) (suc j) y x found = by (get_set zs i j y x found)
  where
    by : (((i ≡ j) × (y ≡ x)) ⊎ ((i ≡ j → ⊥) × (slice_get zs j ≡ Some x)))
        → ((suc i ≡ suc j) × (y ≡ x)) ⊎ ((suc i ≡ suc j → ⊥) × (slice_get zs j ≡ Some x))
    by (inl h) = inl (ap suc h.0, h.1)
    by (inr h) = inr (λ e. h.0 (omega (arith, e)), h.1)

-- another thread stands where it stood
same_thread : (threads : ℕ → Thread) (a : Thread) (t : ℕ) → replaced threads t a t ≡ a
same_thread threads a t = ap (λ (b : Bool). if b then a else threads t) (eq-eqb t t refl)

other_thread : (threads : ℕ → Thread) (a : Thread) (t u : ℕ) → (t ≡ u → ⊥) → replaced threads t a u ≡ threads u
other_thread threads a t u ne = ap (λ (b : Bool). if b then a else threads u) (ne_eqb t u ne)

actors_with : (code : CodeParts) (lim : Bounds) (threads : ℕ → Thread) (actors : List ActorState) (t : ℕ) (a : Thread)
    (actor : ActorState)
    → ((u : ℕ) (x : ActorState) → slice_get actors u ≡ Some x → IsActor code lim u (threads u) x)
    → IsActor code lim t a actor → (u : ℕ) (x : ActorState) → slice_get (slice_set actors t actor) u ≡ Some x
    → IsActor code lim u (replaced threads t a u) x
actors_with code lim threads actors t a actor each is u x found = by (get_set actors t u actor x found)
  where
    by : (((t ≡ u) × (actor ≡ x)) ⊎ ((t ≡ u → ⊥) × (slice_get actors u ≡ Some x)))
        → IsActor code lim u (replaced threads t a u) x
    by (inl h) =
        subst (λ (n : ℕ). IsActor code lim n (replaced threads t a n) x) h.0
        (subst (λ (b : Thread). IsActor code lim t b x) (sym (same_thread threads a t))
        (subst (IsActor code lim t a) h.1 is))
    by (inr h) =
        subst (λ (b : Thread). IsActor code lim u b x) (sym (other_thread threads a t u h.0)) (each u x h.1)

-- with one actor nearer to its end, all are
all_nearer : (fuel : ℕ) (actors : List ActorState) (i : ℕ) (actor actor' : ActorState)
    → slice_get actors i ≡ Some actor
    → steps_left fuel actor'.position actor'.thread.units < steps_left fuel actor.position actor.thread.units
    → all_left fuel (slice_set actors i actor') < all_left fuel actors
all_nearer fuel [] i actor actor' found fewer = absurd (none-some actor found)
all_nearer fuel (y ∷ ys) zero actor actor' found fewer =
    let same : steps_left fuel y.position y.thread.units ≡ steps_left fuel actor.position actor.thread.units =
    ap (λ (x : ActorState). steps_left fuel x.position x.thread.units) (same_Some y actor found) in
    omega (arith, same, fewer)
all_nearer fuel (y ∷ ys) (suc i) actor actor' found fewer =
    let less = all_nearer fuel ys i actor actor' found fewer in omega (arith, less)

-- an actor that was read at a place
found_at : (actors : List ActorState) (place : ℕ) (actor : ActorState) → length actors ≡ 16 → place < 16
    → actor ≡ slice_index_or actors place actor → slice_get actors place ≡ Some actor
found_at actors place actor sixteen lt read = slice_get_read actors 16 place actor (sym sixteen) lt read

same_runs : (code : CodeParts) (lim : Bounds) (cues : List Cue) (seed : ℕ) (words words' : List ℕ)
    (actors actors' : List ActorState) (traces traces' : List (List Step)) (order order' : List ℕ) (standing :
    Standing)
    → words' ≡ words → actors' ≡ actors → traces' ≡ traces → order' ≡ order
    → Runs code lim cues seed words actors traces order standing
    → Runs code lim cues seed words' actors' traces' order' standing
same_runs code lim cues seed words words' actors actors' traces traces' order order' standing w a t o runs =
    subst (λ (x : List ℕ). Runs code lim cues seed words' actors' traces' x standing) (sym o)
    (subst (λ (x : List (List Step)). Runs code lim cues seed words' actors' x order standing) (sym t)
    (subst (λ (x : List ActorState). Runs code lim cues seed words' x traces order standing) (sym a)
    (subst (λ (x : List ℕ). Runs code lim cues seed x actors traces order standing) (sym w) runs)))

-- where the threads stand in a run
module _ (code : CodeParts) (lim : Bounds) (cues : List Cue) (seed : ℕ) (words : List ℕ) (actors : List ActorState)
    (traces : List (List Step)) (order : List ℕ) (standing : Standing)
    (runs : Runs code lim cues seed words actors traces order standing) where
  -- main has ended or not, as code says
  pub as_told : (b : Bool) → main_has_ended standing ≡ b → Fits lim b (runs.threads 0)
  as_told b told =
      subst (λ (x : Bool). Fits lim x (runs.threads 0)) (sym (runs.scheduled.ended 0 (omega arith)) ∙ told)
      (runs.fits 0)

  pub not_ended : main_has_ended standing ≡ false → runs.turns.ended 0 ≡ false
  not_ended told = sym (runs.scheduled.ended 0 (omega arith)) ∙ told

  module _ (thread place : ℕ) (actor : ActorState)
      (may : (turns : Turns) → StandsAt standing turns → may_turn turns thread ≡ true) (same : place ≡ thread)
      (read : actor ≡ slice_index_or actors place actor) where
    may_now : may_turn runs.turns thread ≡ true
    may_now = may runs.turns runs.scheduled

    pub few : thread < 16
    few = few_by runs.turns thread may_now

    pub found : slice_get actors thread ≡ Some actor
    found =
        found_at actors thread actor runs.are_actors.sixteen few
        (subst (λ (n : ℕ). actor ≡ slice_index_or actors n actor) same read)

    -- the actor of the thread whose turn it is
    pub actor_here : IsActor code lim thread (runs.threads thread) actor
    actor_here = runs.are_actors.each thread actor found

    -- it has not ended
    pub fits_here : Fits lim false (runs.threads thread)
    fits_here =
        subst (λ (x : Bool). Fits lim x (runs.threads thread)) (not_ended_by runs.turns thread may_now)
        (runs.fits thread)

    pub goes_here : is_over actor.position ≡ false
    goes_here =
        ap is_over actor_here.at.position
        ∙ goes lim (runs.threads thread).position (runs.threads thread).units fits_here.at

    pub whole_here : length words ≡ words_of actor.thread.lim
    whole_here = runs.whole ∙ ap words_of (sym actor_here.bounds)

-- what one turn of a thread, whose actor stands at a place, makes of a run
pub record MakesTurn (code : CodeParts) (words words' : List ℕ) (actors actors' : List ActorState)
    (traces traces' : List (List Step)) (order order' : List ℕ) (standing standing' : Standing) (actor actor' :
    ActorState)
    (step : Step) (thread place : ℕ) : Type 0 where
  pub goes_on : main_has_ended standing ≡ false
  pub read : actor ≡ slice_index_or actors place actor
  pub stands : (a : Thread) → IsAt code actor a
      → IsAt code actor' (moved (program_of actor.thread.lim code) actor.thread.lim actor.thread.number a
      (answer_on words (op_at actor.thread.lim actor.thread.number actor.position)))
  pub same : IsSame actor.thread actor'.thread
  pub step_is : step ≡ step_in (turn_at actor.thread.lim actor.thread.number actor.position
      (answer_on words (op_at actor.thread.lim actor.thread.number actor.position)))
  pub words_are : words' ≡ words_after words (op_at actor.thread.lim actor.thread.number actor.position)
  pub actors_are : actors' ≡ slice_set actors place actor'
  pub traces_are : traces' ≡ slice_set traces place (slice_index_or traces place [] ++ step ∷ [])
  pub order_is : order' ≡ order ++ thread ∷ []
  pub next : (turns : Turns) → StandsAt standing turns → next_turn turns ≡ Some thread
  pub passed : (turns : Turns) → StandsAt standing turns → StandsAt standing' (turns_behind turns thread step)

-- one turn more of a thread that may have one
module _ (law : OneStepMore) (code : CodeParts) (lim : Bounds) (cues : List Cue) (seed : ℕ) (words words' : List ℕ)
    (actors actors' : List ActorState) (traces traces' : List (List Step)) (order order' : List ℕ)
    (standing standing' : Standing) (actor actor' : ActorState) (step : Step) (t : ℕ)
    (rows : HasRows lim (program_of lim code))
    (may : (turns : Turns) → StandsAt standing turns → may_turn turns t ≡ true)
    (makes : MakesTurn code words words' actors actors' traces traces' order order' standing standing' actor actor'
    step t t)
    (runs : Runs code lim cues seed words actors traces order standing) where
  few_t : t < 16
  few_t = few code lim cues seed words actors traces order standing runs t t actor may refl makes.read

  here : slice_get actors t ≡ Some actor
  here = found code lim cues seed words actors traces order standing runs t t actor may refl makes.read

  is : IsActor code lim t (runs.threads t) actor
  is = actor_here code lim cues seed words actors traces order standing runs t t actor may refl makes.read

  -- the answer to its step
  abbrev answer : ℕ
  answer = answer_on words (op_at lim t (runs.threads t).position)

  -- its step
  abbrev made : Step
  made = step_at lim t (runs.threads t).position answer

  abbrev behind : Thread
  behind = moved (program_of lim code) lim t (runs.threads t) answer

  fits : Fits lim false (runs.threads t)
  fits = fits_here code lim cues seed words actors traces order standing runs t t actor may refl makes.read

  moving : Moves lim (is_end made) (steps_left lim.fuel (runs.threads t).position (runs.threads t).units) behind
  moving = moves (program_of lim code) lim t (runs.threads t) answer rows fits

  is_made : step ≡ made
  is_made =
      there (λ l u p. step ≡ step_in (turn_at l u p (answer_on words (op_at l u p)))) actor.thread.lim lim
      actor.thread.number t actor.position (runs.threads t).position is.bounds is.number is.at.position makes.step_is
      ∙ step_turned (runs.threads t).position made

  moved_at : IsAt code actor' behind
  moved_at =
      there (λ l u p. IsAt code actor'
      (moved (program_of l code) l u (runs.threads t) (answer_on words (op_at l u p)))) actor.thread.lim lim
      actor.thread.number t actor.position (runs.threads t).position is.bounds is.number is.at.position
      (makes.stands (runs.threads t) is.at)

  actor_behind : IsActor code lim t behind actor'
  actor_behind = record {
    at = moved_at;
    bounds = makes.same.lim ∙ is.bounds;
    number = makes.same.number ∙ is.number;
    row = makes.same.row ∙ is.row;
  }

  words_behind : words' ≡ words_after words (op_at lim t (runs.threads t).position)
  words_behind =
      there (λ l u p. words' ≡ words_after words (op_at l u p)) actor.thread.lim lim actor.thread.number t
      actor.position (runs.threads t).position is.bounds is.number is.at.position makes.words_are

  traces_behind : traces' ≡ slice_set traces t (slice_index_or traces t [] ++ made ∷ [])
  traces_behind =
      subst (λ (s : Step). traces' ≡ slice_set traces t (slice_index_or traces t [] ++ s ∷ [])) is_made
      makes.traces_are

  stands_behind : Stands (program_of lim code) lim (slice_set traces t (slice_index_or traces t [] ++ made ∷ []))
      (runs.history ++ (t, made) ∷ []) (words_after words (op_at lim t (runs.threads t).position))
      (replaced runs.threads t behind)
  stands_behind =
      law (program_of lim code) lim traces runs.history words runs.threads t (omega (arith, runs.sixteen_traces, few_t))
      runs.stands (goes lim (runs.threads t).position (runs.threads t).units fits.at)

  main_goes : runs.turns.ended 0 ≡ false
  main_goes = not_ended code lim cues seed words actors traces order standing runs makes.goes_on

  not_yet : runs.turns.ended t ≡ false
  not_yet = not_ended_by runs.turns t (may runs.turns runs.scheduled)

  turns_then : (more : History) → IsTurnByTurn (turns_behind runs.turns t made) more
      → IsTurnByTurn (first_turns cues seed) ((runs.history ++ (t, made) ∷ []) ++ more)
  turns_then more rest =
      subst (λ (h : History). IsTurnByTurn (first_turns cues seed) h)
      (sym (append_assoc runs.history ((t, made) ∷ []) more))
      (runs.by_turns ((t, made) ∷ more) (main_goes, makes.next runs.turns runs.scheduled, rest))

  fits_by : (u : ℕ) → ((t ≡ u) ⊎ (t ≡ u → ⊥))
      → Fits lim ((turns_behind runs.turns t made).ended u) (replaced runs.threads t behind u)
  fits_by u (inl e) =
      subst (λ (n : ℕ). Fits lim ((turns_behind runs.turns t made).ended n) (replaced runs.threads t behind n)) e
      (subst (λ (b : Bool). Fits lim b (replaced runs.threads t behind t))
      (ended_then runs.turns t made (standing_cues runs.turns runs.turns.cues) not_yet)
      (subst (Fits lim (is_end made)) (sym (same_thread runs.threads behind t)) moving.fits))
  fits_by u (inr ne) =
      subst (λ (b : Bool). Fits lim b (replaced runs.threads t behind u))
      (sym (others_then runs.turns t made (standing_cues runs.turns runs.turns.cues) u ne))
      (subst (Fits lim (runs.turns.ended u)) (sym (other_thread runs.threads behind t u ne)) (runs.fits u))

  runs_behind : Runs code lim cues seed (words_after words (op_at lim t (runs.threads t).position))
      (slice_set actors t actor') (slice_set traces t (slice_index_or traces t [] ++ made ∷ [])) (order ++ t ∷ [])
      standing'
  runs_behind = record {
    history = runs.history ++ (t, made) ∷ [];
    threads = replaced runs.threads t behind;
    turns = turns_behind runs.turns t made;
    whole = length-set words _ _ ∙ runs.whole;
    sixteen_traces = length-set traces t _ ∙ runs.sixteen_traces;
    in_order = map-append (λ e. e.0) runs.history ((t, made) ∷ []) ∙ ap (λ (l : List ℕ). l ++ t ∷ []) runs.in_order;
    stands = stands_behind;
    are_actors = record {
      sixteen = length-set actors t actor' ∙ runs.are_actors.sixteen;
      each = actors_with code lim runs.threads actors t behind actor' runs.are_actors.each actor_behind;
    };
    fits = λ u. fits_by u (cases_eq t u);
    scheduled = subst (λ (s : Step). StandsAt standing' (turns_behind runs.turns t s)) is_made
        (makes.passed runs.turns runs.scheduled);
    by_turns = turns_then;
  }

  runs_on : Runs code lim cues seed words' actors' traces' order' standing'
  runs_on =
      same_runs code lim cues seed _ words' _ actors' _ traces' _ order' standing' words_behind makes.actors_are
      traces_behind makes.order_is runs_behind

  -- all are nearer to their ends
  nearer : all_left lim.fuel actors' < all_left lim.fuel actors
  nearer =
      let was : steps_left lim.fuel actor.position actor.thread.units
      ≡ steps_left lim.fuel (runs.threads t).position (runs.threads t).units =
      ap (λ (p : Position). steps_left lim.fuel p actor.thread.units) is.at.position
      ∙ ap (λ (n : ℕ). steps_left lim.fuel (runs.threads t).position n) is.at.units in
      let now : steps_left lim.fuel actor'.position actor'.thread.units
      ≡ steps_left lim.fuel behind.position behind.units =
      ap (λ (p : Position). steps_left lim.fuel p actor'.thread.units) moved_at.position
      ∙ ap (λ (n : ℕ). steps_left lim.fuel behind.position n) moved_at.units in
      let less = all_nearer lim.fuel actors t actor actor' here (omega (arith, moving.fewer, was, now)) in
      omega (arith, less, ap (all_left lim.fuel) makes.actors_are)

-- the same where the actor stands at the place of its thread's number
module _ (law : OneStepMore) (code : CodeParts) (lim : Bounds) (cues : List Cue) (seed : ℕ) (words words' : List ℕ)
    (actors actors' : List ActorState) (traces traces' : List (List Step)) (order order' : List ℕ)
    (standing standing' : Standing) (actor actor' : ActorState) (step : Step) (thread place : ℕ)
    (rows : HasRows lim (program_of lim code))
    (may : (turns : Turns) → StandsAt standing turns → may_turn turns thread ≡ true) (same : place ≡ thread)
    (makes : MakesTurn code words words' actors actors' traces traces' order order' standing standing' actor actor'
    step thread place) (runs : Runs code lim cues seed words actors traces order standing) where
  at_place : MakesTurn code words words' actors actors' traces traces' order order' standing standing' actor actor'
      step thread thread
  at_place =
      subst (λ (n : ℕ). MakesTurn code words words' actors actors' traces traces' order order' standing standing' actor
      actor' step thread n) same makes

  pub turned : Runs code lim cues seed words' actors' traces' order' standing'
  turned =
      runs_on law code lim cues seed words words' actors actors' traces traces' order order' standing standing' actor
      actor' step thread rows may at_place runs

  pub turned_nearer : all_left lim.fuel actors' < all_left lim.fuel actors
  turned_nearer =
      nearer law code lim cues seed words words' actors actors' traces traces' order order' standing standing' actor
      actor' step thread rows may at_place runs
