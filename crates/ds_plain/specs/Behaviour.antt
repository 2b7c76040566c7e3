-- What a thread asks, by the answers that it was given; and the same for any states and any step between them.
use Rattle.std.specs.Prelude.{ℕ, zero, suc, ◌%◌, ◌^◌, Bool, List, [], ◌∷◌}
use Rattle.ds_plain.specs.declared.Place.{Place}
use Rattle.ds_plain.specs.declared.Stop.{Stop}
use Rattle.ds_plain.specs.declared.Request.{Request}
use Rattle.ds_plain.specs.declared.Request.TheVariants as requests

-- what a thread asks next: how many instructions begin, with the one that asks; where that one stands; and the request.
-- Or nothing, where no request comes.
pub data Asked : Type 0 where
  Asks : (begun : ℕ) → Place → Request → Asked
  Silent : Asked

-- where what is asked stands in the text
abbrev pub place_in_text : Asked → Place
place_in_text (Asks begun place request) = place
place_in_text Silent = record { function = 0; instruction = 0 }

-- what a thread asks after these answers, the oldest first
abbrev pub Behaviour : Type 0
Behaviour = List ℕ → Asked

-- what is left of a behaviour once it was given an answer
abbrev pub told : Behaviour → ℕ → Behaviour
told rest answer = λ more. rest (answer ∷ more)

-- the behaviour of a thread that has not begun
abbrev pub silent : Behaviour
silent answers = Silent

-- what is run, by what it asks
pub record Program : Type 0 where
  -- the number of main among all functions of the text, declared ones too, from 0
  pub main : ℕ
  -- the words with which the globals begin
  pub image : List ℕ
  -- whether a thread may be started on the function of a number
  pub may_start : ℕ → Bool
  -- how a thread behaves, by its number, its function and its argument
  pub behaves : (thread function argument : ℕ) → Behaviour

-- STATES, AND A STEP BETWEEN THEM

-- what comes of beginning an instruction
pub data Outcome (S : Type 0) : Type 0 where
  -- it is done, and the thread goes on
  Goes : S → Outcome S
  -- it asks, where it stands, and the thread goes on by the answer
  Wants : Place → Request → (ℕ → S) → Outcome S
  -- it asks to stop, and the thread stays
  Stops : Place → Stop → Outcome S
  -- it has no meaning
  Stuck : Outcome S

-- one instruction more has begun
abbrev pub one_more : Asked → Asked
one_more (Asks begun place request) = Asks (suc begun) place request
one_more Silent = Silent

abbrev pub asked_by : {S : Type 0} → (S → Asked) → Outcome S → Asked
asked_by go (Goes s) = one_more (go s)
asked_by go (Wants place request answered) = Asks 1 place request
asked_by go (Stops place stop) = Asks 1 place (requests.Stop stop)
asked_by go Stuck = Silent

-- what is asked, if at most n instructions begin
abbrev pub ask : {S : Type 0} → (S → Outcome S) → ℕ → S → Asked
ask step zero s = Silent
ask step (suc n) s = asked_by (ask step n) (step s)

-- an answer is a word
abbrev pub told_by : {S : Type 0} → (S → S) → S → ℕ → Outcome S → S
told_by go s answer (Goes s') = go s'
told_by go s answer (Wants place request answered) = answered (answer % 2 ^ 64)
told_by go s answer (Stops place stop) = s
told_by go s answer Stuck = s

-- the state once what is asked was answered
abbrev pub tell : {S : Type 0} → (S → Outcome S) → ℕ → S → ℕ → S
tell step zero s answer = s
tell step (suc n) s answer = told_by (λ s'. tell step n s' answer) s answer (step s)

-- how a thread behaves from a state on, whose instructions begin at most n at a time before it asks
abbrev pub behaviour : {S : Type 0} → (S → Outcome S) → ℕ → S → Behaviour
behaviour step n s [] = ask step n s
behaviour step n s (answer ∷ answers) = behaviour step n (tell step n s answer) answers
