-- The words by which threads are started: what they say of the threads, who writes them, and that each step keeps it
-- so.
use Rattle.std.proofs.Common.{◌≡◌, ℕ, ◌<◌, ◌≤◌, List, sym, ◌∙◌, subst, inl, inr, ◌⊎◌, arith, slice_index}
use Rattle.std.proofs.lemmas.Bool.{cases_eq}
use Rattle.ds_plain.specs.declared.StartAt.TheVariants.{LoadStart, LoadFunction, LoadArgument}
use Rattle.ds_plain.specs.declared.SpawnAt.TheVariants.{DrawThread, StoreNumber, StoreFunction, StoreArgument}
use Rattle.ds_plain.specs.declared.SpawnAt.TheVariants.{OpenThread}
use Rattle.ds_plain.specs.declared.JoinAt.TheVariants.{LoadGiven, LoadEnded}
use Rattle.ds_plain.specs.declared.Position.{Position}
use Rattle.ds_plain.specs.declared.Position.TheVariants.{Start, Malloc, Note, Free, Spawn, Join}
use Rattle.ds_plain.specs.declared.Position.TheVariants.{DrawPrint, StoreEnded, Over, NoRow}
use Rattle.ds_plain.specs.declared.Position.TheVariants as positions
use Rattle.ds_plain.specs.Behaviour.{Behaviour}
use Rattle.ds_plain.specs.State.{Doing, Phase, NotGiven, Closed, Ready, Going, Stopped, State, replaced}
use Rattle.ds_plain.specs.Plain.{IsStopped}
use Rattle.ds_plain.specs.Starting.{start_word, function_word, argument_word}
use Rattle.ds_plain.specs.Thread.{Thread}
use Rattle.ds_plain_laws.proofs.Choices.{replaced_same, replaced_other}
use Rattle.ds_plain_laws.proofs.Phases.{Passes, Goes}

-- THREADS, BY THEIR PHASES

-- a thread whose number was not given out, or that has ended
abbrev pub IsUnstarted : Phase → Type 0
IsUnstarted NotGiven = Unit {0}
IsUnstarted (Closed function argument) = ⊥
IsUnstarted (Ready function argument) = ⊥
IsUnstarted (Going rest doing) = ⊥
IsUnstarted (Stopped stop) = Unit {0}

-- a thread that may begin is to run this function with this argument
abbrev pub IsOpen : (function argument : ℕ) → Phase → Type 0
IsOpen function argument NotGiven = ⊥
IsOpen function argument (Closed f a) = ⊥
IsOpen function argument (Ready f a) = (function ≡ f) × (argument ≡ a)
IsOpen function argument (Going rest doing) = Unit {0}
IsOpen function argument (Stopped stop) = Unit {0}

-- a thread that another one starts is to run this function with this argument, or has ended before
abbrev pub IsMeant : (function argument : ℕ) → Phase → Type 0
IsMeant function argument NotGiven = ⊥
IsMeant function argument (Closed f a) = (function ≡ f) × (argument ≡ a)
IsMeant function argument (Ready f a) = (function ≡ f) × (argument ≡ a)
IsMeant function argument (Going rest doing) = ⊥
IsMeant function argument (Stopped stop) = Unit {0}

-- and its number was stored
abbrev pub IsToldOf : (function argument : ℕ) → Phase → Type 0
IsToldOf function argument NotGiven = ⊥
IsToldOf function argument (Closed f a) = ⊥
IsToldOf function argument (Ready f a) = (function ≡ f) × (argument ≡ a)
IsToldOf function argument (Going rest doing) = ⊥
IsToldOf function argument (Stopped stop) = Unit {0}

pub told_meant : (function argument : ℕ) (phase : Phase) → IsToldOf function argument phase
    → IsMeant function argument phase
told_meant function argument NotGiven is = is
told_meant function argument (Closed f a) is = absurd is
told_meant function argument (Ready f a) is = is
told_meant function argument (Going rest doing) is = is
told_meant function argument (Stopped stop) is = is

-- one that runs is none of these
pub goes_meant : (function argument : ℕ) (phase : Phase) → Goes phase → IsMeant function argument phase → ⊥
goes_meant function argument phase goes is = subst (IsMeant function argument) goes.going is

pub goes_unstarted : (phase : Phase) → Goes phase → IsUnstarted phase → ⊥
goes_unstarted phase goes is = subst IsUnstarted goes.going is

pub goes_stopped : (phase : Phase) → Goes phase → IsStopped phase → ⊥
goes_stopped phase goes is = subst IsStopped goes.going is

pub goes_open : (function argument : ℕ) (phase : Phase) → Goes phase → IsOpen function argument phase
goes_open function argument phase goes = subst (IsOpen function argument) (sym goes.going) tt

-- SEATS

-- the words of thread u
abbrev pub start_of : List ℕ → ℕ → ℕ
start_of words u = slice_index words (start_word u)

abbrev pub function_of : List ℕ → ℕ → ℕ
function_of words u = slice_index words (function_word u)

abbrev pub argument_of : List ℕ → ℕ → ℕ
argument_of words u = slice_index words (argument_word u)

-- thread u starts thread n, which may not begin yet
pub record Creates (words : List ℕ) (s : State) (maker : ℕ → ℕ) (u n : ℕ) : Type 0 where
  pub made : maker n ≡ u
  pub few : n < 16
  pub given : n < s.given
  pub closed : start_of words n ≡ 1 → ⊥

-- what the words say to a thread that stands there
abbrev pub IsSeated : List ℕ → State → (maker : ℕ → ℕ) → (u : ℕ) → Position → Type 0
IsSeated words s maker u (Start LoadStart) = Unit {0}
IsSeated words s maker u (Start LoadFunction) = (u ≡ 0 → ⊥) × (start_of words u ≡ 1)
IsSeated words s maker u (Start (LoadArgument function)) =
    (u ≡ 0 → ⊥) × (start_of words u ≡ 1) × (function_of words u ≡ function)
IsSeated words s maker u (positions.Access at) = Unit {0}
IsSeated words s maker u (Malloc at) = Unit {0}
IsSeated words s maker u (Note at) = Unit {0}
IsSeated words s maker u (Free at) = Unit {0}
IsSeated words s maker u (Spawn (DrawThread loc function arg)) = Unit {0}
IsSeated words s maker u (Spawn (StoreNumber n loc function arg)) =
    Creates words s maker u n × IsMeant function arg (s.threads n)
IsSeated words s maker u (Spawn (StoreFunction n function arg)) =
    Creates words s maker u n × IsToldOf function arg (s.threads n)
IsSeated words s maker u (Spawn (StoreArgument n arg)) =
    Creates words s maker u n × IsToldOf (function_of words n) arg (s.threads n)
IsSeated words s maker u (Spawn (OpenThread n)) =
    Creates words s maker u n × IsToldOf (function_of words n) (argument_of words n) (s.threads n)
IsSeated words s maker u (Join (LoadGiven number)) = Unit {0}
IsSeated words s maker u (Join (LoadEnded n)) = (n < 16) × (n < s.given)
IsSeated words s maker u (DrawPrint value) = Unit {0}
IsSeated words s maker u (StoreEnded stop) = Unit {0}
IsSeated words s maker u (Over stop) = Unit {0}
IsSeated words s maker u NoRow = Unit {0}

-- What the words of all threads say: who was not given out has not begun; a start word of 1 says that its thread may
-- begin, what the other words say, and one of 2 that it has ended.
pub record Seats (words : List ℕ) (s : State) (threads : ℕ → Thread) (maker : ℕ → ℕ) : Type 0 where
  pub some : 1 ≤ s.given
  pub unstarted : (u : ℕ) → s.given ≤ u → IsUnstarted (s.threads u)
  pub opened : (u : ℕ) → u < 16 → start_of words u ≡ 1
      → (u ≡ 0) ⊎ IsOpen (function_of words u) (argument_of words u) (s.threads u)
  pub ended : (u : ℕ) → u < 16 → IsStopped (s.threads u) → start_of words u ≡ 2
  pub stopped : (u : ℕ) → u < 16 → start_of words u ≡ 2 → IsStopped (s.threads u)
  pub seated : (u : ℕ) → u < 16 → IsSeated words s maker u (threads u).position

-- what a step of thread t leaves of the seats: all but where the others stand is shown anew
pub record SeatStep (t : ℕ) (words words' : List ℕ) (s s' : State) (maker maker' : ℕ → ℕ) (a : Thread) : Type 0 where
  pub given : s.given ≤ s'.given
  pub unstarted : (u : ℕ) → s'.given ≤ u → IsUnstarted (s'.threads u)
  pub opened : (u : ℕ) → u < 16 → start_of words' u ≡ 1
      → (u ≡ 0) ⊎ IsOpen (function_of words' u) (argument_of words' u) (s'.threads u)
  pub ended : (u : ℕ) → u < 16 → IsStopped (s'.threads u) → start_of words' u ≡ 2
  pub stopped : (u : ℕ) → u < 16 → start_of words' u ≡ 2 → IsStopped (s'.threads u)
  pub here : t < 16 → IsSeated words' s' maker' t a.position
  -- a thread that may begin still may, and is to run what it was
  pub begun : (u : ℕ) → u < 16 → (t ≡ u → ⊥) → start_of words u ≡ 1
      → (start_of words' u ≡ 1) × (function_of words' u ≡ function_of words u)
  -- what another thread starts stays as that thread knows it
  pub kept : (u n : ℕ) → (t ≡ u → ⊥) → (function argument : ℕ) → Creates words s maker u n
      → IsMeant function argument (s.threads n)
      → Creates words' s' maker' u n × (function_of words' n ≡ function_of words n)
      × (argument_of words' n ≡ argument_of words n)
  pub meant : (u n : ℕ) → (t ≡ u → ⊥) → (function argument : ℕ) → Creates words s maker u n
      → IsMeant function argument (s.threads n) → IsMeant function argument (s'.threads n)
  pub told_of : (u n : ℕ) → (t ≡ u → ⊥) → (function argument : ℕ) → Creates words s maker u n
      → IsToldOf function argument (s.threads n) → IsToldOf function argument (s'.threads n)

module _ (t : ℕ) (words words' : List ℕ) (s s' : State) (threads : ℕ → Thread) (maker maker' : ℕ → ℕ) (a : Thread)
    (step : SeatStep t words words' s s' maker maker' a) (seats : Seats words s threads maker) where
  seated_on : (u : ℕ) → u < 16 → (t ≡ u → ⊥) → (p : Position) → IsSeated words s maker u p
      → IsSeated words' s' maker' u p
  seated_on u few ne (Start LoadStart) l = tt
  seated_on u few ne (Start LoadFunction) l = (l.0, (step.begun u few ne l.1).0)
  seated_on u few ne (Start (LoadArgument function)) l =
      let same = step.begun u few ne l.1 in (l.0, same.0, same.1 ∙ l.2)
  seated_on u few ne (positions.Access at) l = tt
  seated_on u few ne (Malloc at) l = tt
  seated_on u few ne (Note at) l = tt
  seated_on u few ne (Free at) l = tt
  seated_on u few ne (Spawn (DrawThread loc function arg)) l = tt
  seated_on u few ne (Spawn (StoreNumber n loc function arg)) l =
      ((step.kept u n ne function arg l.0 l.1).0, step.meant u n ne function arg l.0 l.1)
  seated_on u few ne (Spawn (StoreFunction n function arg)) l = (
    (step.kept u n ne function arg l.0 (told_meant function arg (s.threads n) l.1)).0,
    step.told_of u n ne function arg l.0 l.1,
  )
  seated_on u few ne (Spawn (StoreArgument n arg)) l =
      let function : ℕ = function_of words n in
      let kept = step.kept u n ne function arg l.0 (told_meant function arg (s.threads n) l.1) in (
        kept.0,
        subst (λ f. IsToldOf f arg (s'.threads n)) (sym kept.1) (step.told_of u n ne function arg l.0 l.1),
      )
  seated_on u few ne (Spawn (OpenThread n)) l =
      let function : ℕ = function_of words n in
      let argument : ℕ = argument_of words n in
      let kept = step.kept u n ne function argument l.0 (told_meant function argument (s.threads n) l.1) in (
        kept.0,
        subst (λ f. IsToldOf f (argument_of words' n) (s'.threads n)) (sym kept.1)
            (subst (λ x. IsToldOf function x (s'.threads n)) (sym kept.2)
            (step.told_of u n ne function argument l.0 l.1)),
      )
  seated_on u few ne (Join (LoadGiven number)) l = tt
  seated_on u few ne (Join (LoadEnded n)) l = (l.0, omega (arith, l.1, step.given))
  seated_on u few ne (DrawPrint value) l = tt
  seated_on u few ne (StoreEnded stop) l = tt
  seated_on u few ne (Over stop) l = tt
  seated_on u few ne NoRow l = tt

  seated_by : (u : ℕ) → u < 16 → ((t ≡ u) ⊎ (t ≡ u → ⊥))
      → IsSeated words' s' maker' u (replaced threads t a u).position
  seated_by u few (inl is) =
      subst (λ u. IsSeated words' s' maker' u (replaced threads t a u).position) is
      (subst (λ (x : Thread). IsSeated words' s' maker' t x.position) (sym (replaced_same threads t a))
      (step.here (subst (λ u. u < 16) (sym is) few)))
  seated_by u few (inr ne) =
      subst (λ (x : Thread). IsSeated words' s' maker' u x.position) (sym (replaced_other threads t a u ne))
      (seated_on u few ne (threads u).position (seats.seated u few))

  -- the seats after the step
  pub seats_by : Seats words' s' (replaced threads t a) maker'
  seats_by = record {
    some = omega (arith, seats.some, step.given);
    unstarted = step.unstarted;
    opened = step.opened;
    ended = step.ended;
    stopped = step.stopped;
    seated = λ u few. seated_by u few (cases_eq t u);
  }

-- PHASES THAT A STEP OF ANOTHER THREAD LEAVES

-- what holds of a phase still holds of it, if it is none of what is done for a request
module _ (Q : Phase → Type 0) (stays : (rest : Behaviour) (doing doing' : Doing) → Q (Going rest doing)
    → Q (Going rest doing')) where
  pub passes_keep : (phase phase' : Phase) → Passes phase phase' → Q phase → Q phase'
  passes_keep NotGiven phase' passes q = subst Q (sym passes) q
  passes_keep (Closed function argument) phase' passes q = subst Q (sym passes) q
  passes_keep (Ready function argument) phase' passes q = subst Q (sym passes) q
  passes_keep (Going rest doing) phase' passes q = subst Q (sym passes.1) (stays rest doing passes.0 q)
  passes_keep (Stopped stop) phase' passes q = subst Q (sym passes) q

  pub passes_back : (phase phase' : Phase) → Passes phase phase' → Q phase' → Q phase
  passes_back NotGiven phase' passes q = subst Q passes q
  passes_back (Closed function argument) phase' passes q = subst Q passes q
  passes_back (Ready function argument) phase' passes q = subst Q passes q
  passes_back (Going rest doing) phase' passes q = stays rest passes.0 doing (subst Q passes.1 q)
  passes_back (Stopped stop) phase' passes q = subst Q passes q

pub unstarted_keep : (phase phase' : Phase) → Passes phase phase' → IsUnstarted phase → IsUnstarted phase'
unstarted_keep = passes_keep IsUnstarted (λ rest doing doing' q. q)

pub stopped_keep : (phase phase' : Phase) → Passes phase phase' → IsStopped phase → IsStopped phase'
stopped_keep = passes_keep IsStopped (λ rest doing doing' q. q)

pub stopped_back : (phase phase' : Phase) → Passes phase phase' → IsStopped phase' → IsStopped phase
stopped_back = passes_back IsStopped (λ rest doing doing' q. q)

pub open_keep : (function argument : ℕ) (phase phase' : Phase) → Passes phase phase' → IsOpen function argument phase
    → IsOpen function argument phase'
open_keep function argument = passes_keep (IsOpen function argument) (λ rest doing doing' q. q)

pub meant_keep : (function argument : ℕ) (phase phase' : Phase) → Passes phase phase' → IsMeant function argument phase
    → IsMeant function argument phase'
meant_keep function argument = passes_keep (IsMeant function argument) (λ rest doing doing' q. q)

pub told_keep : (function argument : ℕ) (phase phase' : Phase) → Passes phase phase'
    → IsToldOf function argument phase → IsToldOf function argument phase'
told_keep function argument = passes_keep (IsToldOf function argument) (λ rest doing doing' q. q)
