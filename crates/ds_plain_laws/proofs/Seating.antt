-- Which seats a step leaves, by what it does: a step of a thread that runs or begins, one that only loads, the last one, and
-- those of a thread that starts another one.
use Rattle.std.proofs.Common.{◌≡◌, ℕ, ◌<◌, ◌≤◌, List, refl, sym, ap, ◌∙◌, subst, inl, inr, ◌⊎◌, arith}
use Rattle.std.proofs.Common.{slice_index}
use Rattle.std.proofs.lemmas.Bool.{cases_eq}
use Rattle.ds_plain.specs.State.{Phase, NotGiven, Closed, Ready, Going, Stopped, State}
use Rattle.ds_plain.specs.Plain.{IsStopped}
use Rattle.ds_plain.specs.Starting.{start_word, function_word, argument_word}
use Rattle.ds_plain.specs.Thread.{Thread}
use Rattle.ds_plain_laws.proofs.Phases.{Passes, Goes}
use Rattle.ds_plain_laws.proofs.Seats.{IsUnstarted, IsOpen, IsMeant, IsToldOf, told_meant, goes_meant, goes_unstarted}
use Rattle.ds_plain_laws.proofs.Seats.{goes_stopped, goes_open, start_of, function_of, argument_of, Creates, IsSeated, Seats}
use Rattle.ds_plain_laws.proofs.Seats.{SeatStep, unstarted_keep, stopped_keep, stopped_back, open_keep, meant_keep, told_keep}

-- the words by which threads are started are the same
abbrev pub SameSeats : (words words' : List ℕ) → Type 0
SameSeats words words' = (i : ℕ) → 16 ≤ i → i < 64 → slice_index words' i ≡ slice_index words i

-- a number drawn before is not that of thread n, which another thread starts
other_made : (words : List ℕ) (s : State) (maker : ℕ → ℕ) (t u n m : ℕ) → (t ≡ u → ⊥) → maker n ≡ t
    → Creates words s maker u m → n ≡ m → ⊥
other_made words s maker t u n m ne mine creates is = ne (sym mine ∙ (ap maker is ∙ creates.made))

-- WHERE THE WORDS STAY

module _ (t : ℕ) (words words' : List ℕ) (s s' : State) (threads : ℕ → Thread) (maker : ℕ → ℕ) (a : Thread)
    (seats : Seats words s threads maker) (same : SameSeats words words') where
  starts_same : (u : ℕ) → u < 16 → start_of words' u ≡ start_of words u
  starts_same u few = same (start_word u) (omega arith) (omega (arith, few))

  functions_same : (u : ℕ) → u < 16 → function_of words' u ≡ function_of words u
  functions_same u few = same (function_word u) (omega arith) (omega (arith, few))

  arguments_same : (u : ℕ) → u < 16 → argument_of words' u ≡ argument_of words u
  arguments_same u few = same (argument_word u) (omega arith) (omega (arith, few))

  -- what thread u starts, as it did
  creates_same : (u n : ℕ) → s.given ≤ s'.given → Creates words s maker u n
      → Creates words' s' maker u n × (function_of words' n ≡ function_of words n)
      × (argument_of words' n ≡ argument_of words n)
  creates_same u n le c = (
    record {
      made = c.made;
      few = c.few;
      given = omega (arith, c.given, le);
      closed = λ is. c.closed (sym (starts_same n c.few) ∙ is);
    },
    functions_same n c.few,
    arguments_same n c.few,
  )

  -- the words of an open thread, as they were
  open_same : (u : ℕ) (phase : Phase) → u < 16 → IsOpen (function_of words u) (argument_of words u) phase
      → IsOpen (function_of words' u) (argument_of words' u) phase
  open_same u phase few is =
      subst (λ f. IsOpen f (argument_of words' u) phase) (sym (functions_same u few))
      (subst (λ x. IsOpen (function_of words u) x phase) (sym (arguments_same u few)) is)

  -- A thread that runs behind the step, and that nobody starts; the phases of the others stay.
  module _ (given : s.given ≤ s'.given) (others : (u : ℕ) → (t ≡ u → ⊥) → Passes (s.threads u) (s'.threads u))
      (goes : Goes (s'.threads t)) (started : IsUnstarted (s.threads t) → ⊥) (not_two : start_of words t ≡ 2 → ⊥)
      (mine : (u : ℕ) → Creates words s maker u t → (function argument : ℕ)
      → IsMeant function argument (s.threads t) → ⊥)
      (here : t < 16 → IsSeated words' s' maker t a.position) where
    going_unstarted : (u : ℕ) → s'.given ≤ u → ((t ≡ u) ⊎ (t ≡ u → ⊥)) → IsUnstarted (s'.threads u)
    going_unstarted u le (inl is) =
        absurd (started (subst (λ u. IsUnstarted (s.threads u)) (sym is) (seats.unstarted u (omega (arith, le, given)))))
    going_unstarted u le (inr ne) =
        unstarted_keep (s.threads u) (s'.threads u) (others u ne) (seats.unstarted u (omega (arith, le, given)))

    opened_by : (u : ℕ) → u < 16 → (t ≡ u → ⊥)
        → ((u ≡ 0) ⊎ IsOpen (function_of words u) (argument_of words u) (s.threads u))
        → (u ≡ 0) ⊎ IsOpen (function_of words' u) (argument_of words' u) (s'.threads u)
    opened_by u few ne (inl is) = inl is
    opened_by u few ne (inr is) =
        inr (open_keep (function_of words' u) (argument_of words' u) (s.threads u) (s'.threads u) (others u ne)
        (open_same u (s.threads u) few is))

    going_opened : (u : ℕ) → u < 16 → start_of words' u ≡ 1 → ((t ≡ u) ⊎ (t ≡ u → ⊥))
        → (u ≡ 0) ⊎ IsOpen (function_of words' u) (argument_of words' u) (s'.threads u)
    going_opened u few one (inl is) =
        inr (subst (λ u. IsOpen (function_of words' u) (argument_of words' u) (s'.threads u)) is
        (goes_open (function_of words' t) (argument_of words' t) (s'.threads t) goes))
    going_opened u few one (inr ne) = opened_by u few ne (seats.opened u few (sym (starts_same u few) ∙ one))

    going_ended : (u : ℕ) → u < 16 → IsStopped (s'.threads u) → ((t ≡ u) ⊎ (t ≡ u → ⊥)) → start_of words' u ≡ 2
    going_ended u few stopped (inl is) =
        absurd (goes_stopped (s'.threads t) goes (subst (λ u. IsStopped (s'.threads u)) (sym is) stopped))
    going_ended u few stopped (inr ne) =
        starts_same u few
        ∙ seats.ended u few (stopped_back (s.threads u) (s'.threads u) (others u ne) stopped)

    going_stopped : (u : ℕ) → u < 16 → start_of words' u ≡ 2 → ((t ≡ u) ⊎ (t ≡ u → ⊥)) → IsStopped (s'.threads u)
    going_stopped u few two (inl is) =
        absurd (not_two (subst (λ u. start_of words u ≡ 2) (sym is) (sym (starts_same u few) ∙ two)))
    going_stopped u few two (inr ne) =
        stopped_keep (s.threads u) (s'.threads u) (others u ne)
        (seats.stopped u few (sym (starts_same u few) ∙ two))

    going_meant : (u n function argument : ℕ) → Creates words s maker u n → IsMeant function argument (s.threads n)
        → ((t ≡ n) ⊎ (t ≡ n → ⊥)) → IsMeant function argument (s'.threads n)
    going_meant u n function argument c is (inl e) =
        absurd (mine u (subst (Creates words s maker u) (sym e) c) function argument
        (subst (λ n. IsMeant function argument (s.threads n)) (sym e) is))
    going_meant u n function argument c is (inr ne) =
        meant_keep function argument (s.threads n) (s'.threads n) (others n ne) is

    going_told : (u n function argument : ℕ) → Creates words s maker u n → IsToldOf function argument (s.threads n)
        → ((t ≡ n) ⊎ (t ≡ n → ⊥)) → IsToldOf function argument (s'.threads n)
    going_told u n function argument c is (inl e) =
        absurd (mine u (subst (Creates words s maker u) (sym e) c) function argument
        (subst (λ n. IsMeant function argument (s.threads n)) (sym e)
        (told_meant function argument (s.threads n) is)))
    going_told u n function argument c is (inr ne) =
        told_keep function argument (s.threads n) (s'.threads n) (others n ne) is

    pub going_step : SeatStep t words words' s s' maker maker a
    going_step = record {
      given = given;
      unstarted = λ u le. going_unstarted u le (cases_eq t u);
      opened = λ u few one. going_opened u few one (cases_eq t u);
      ended = λ u few stopped. going_ended u few stopped (cases_eq t u);
      stopped = λ u few two. going_stopped u few two (cases_eq t u);
      here = here;
      begun = λ u few ne one. (starts_same u few ∙ one, functions_same u few);
      kept = λ u n ne function argument c is. creates_same u n given c;
      meant = λ u n ne function argument c is. going_meant u n function argument c is (cases_eq t n);
      told_of = λ u n ne function argument c is. going_told u n function argument c is (cases_eq t n);
    }

  -- A thread that ran before: nobody starts it.
  pub running_step : s.given ≤ s'.given → ((u : ℕ) → (t ≡ u → ⊥) → Passes (s.threads u) (s'.threads u))
      → t < 16 → Goes (s.threads t) → Goes (s'.threads t) → (t < 16 → IsSeated words' s' maker t a.position)
      → SeatStep t words words' s s' maker maker a
  running_step given others few before goes here =
      going_step given others goes (goes_unstarted (s.threads t) before)
      (λ two. goes_stopped (s.threads t) before (seats.stopped t few two))
      (λ u c function argument is. goes_meant function argument (s.threads t) before is) here

  -- A thread that begins: its start word lets it.
  pub begun_step : ((u : ℕ) → (t ≡ u → ⊥) → Passes (s.threads u) (s'.threads u)) → s.given ≤ s'.given
      → Goes (s'.threads t) → (IsUnstarted (s.threads t) → ⊥) → start_of words t ≡ 1
      → (t < 16 → IsSeated words' s' maker t a.position) → SeatStep t words words' s s' maker maker a
  begun_step others given goes started one here =
      going_step given others goes started
      (λ two. let bad : 1 ≡ 2 = sym one ∙ two in absurd (cc (bad)))
      (λ u c function argument is. c.closed one) here

-- WHERE THE STATE STAYS

-- a step that changes neither words nor state moves its thread alone
pub waiting_step : (t : ℕ) (words : List ℕ) (s : State) (threads : ℕ → Thread) (maker : ℕ → ℕ) (a : Thread)
    → Seats words s threads maker → (t < 16 → IsSeated words s maker t a.position)
    → SeatStep t words words s s maker maker a
waiting_step t words s threads maker a seats here = record {
  given = omega arith;
  unstarted = seats.unstarted;
  opened = seats.opened;
  ended = seats.ended;
  stopped = seats.stopped;
  here = here;
  begun = λ u few ne one. (one, refl);
  kept = λ u n ne function argument c is. (c, refl, refl);
  meant = λ u n ne function argument c is. is;
  told_of = λ u n ne function argument c is. is;
}

-- THE LAST STEP

module _ (t : ℕ) (words words' : List ℕ) (s s' : State) (threads : ℕ → Thread) (maker : ℕ → ℕ) (a : Thread)
    (seats : Seats words s threads maker) (few_t : t < 16) (two : start_of words' t ≡ 2)
    (apart : (i : ℕ) → (start_word t ≡ i → ⊥) → slice_index words' i ≡ slice_index words i)
    (given : s'.given ≡ s.given) (stop : IsStopped (s'.threads t))
    (others : (u : ℕ) → (t ≡ u → ⊥) → s'.threads u ≡ s.threads u)
    (here : t < 16 → IsSeated words' s' maker t a.position) where
  last_start : (u : ℕ) → (t ≡ u → ⊥) → start_of words' u ≡ start_of words u
  last_start u ne = apart (start_word u) (λ e. ne (omega (arith, e)))

  last_function : (u : ℕ) → u < 16 → function_of words' u ≡ function_of words u
  last_function u few = apart (function_word u) (λ e. omega (arith, e, few_t))

  last_argument : (u : ℕ) → u < 16 → argument_of words' u ≡ argument_of words u
  last_argument u few = apart (argument_word u) (λ e. omega (arith, e, few_t))

  stopped_unstarted : (phase : Phase) → IsStopped phase → IsUnstarted phase
  stopped_unstarted NotGiven is = absurd is
  stopped_unstarted (Closed function argument) is = absurd is
  stopped_unstarted (Ready function argument) is = absurd is
  stopped_unstarted (Going rest doing) is = absurd is
  stopped_unstarted (Stopped stop) is = tt

  stopped_meant : (function argument : ℕ) (phase : Phase) → IsStopped phase → IsMeant function argument phase
  stopped_meant function argument NotGiven is = absurd is
  stopped_meant function argument (Closed f x) is = absurd is
  stopped_meant function argument (Ready f x) is = absurd is
  stopped_meant function argument (Going rest doing) is = absurd is
  stopped_meant function argument (Stopped stop) is = tt

  stopped_told : (function argument : ℕ) (phase : Phase) → IsStopped phase → IsToldOf function argument phase
  stopped_told function argument NotGiven is = absurd is
  stopped_told function argument (Closed f x) is = absurd is
  stopped_told function argument (Ready f x) is = absurd is
  stopped_told function argument (Going rest doing) is = absurd is
  stopped_told function argument (Stopped stop) is = tt

  last_unstarted : (u : ℕ) → s'.given ≤ u → ((t ≡ u) ⊎ (t ≡ u → ⊥)) → IsUnstarted (s'.threads u)
  last_unstarted u le (inl is) =
      subst (λ u. IsUnstarted (s'.threads u)) is (stopped_unstarted (s'.threads t) stop)
  last_unstarted u le (inr ne) =
      subst IsUnstarted (sym (others u ne)) (seats.unstarted u (omega (arith, le, given)))

  last_opened : (u : ℕ) → u < 16 → start_of words' u ≡ 1 → ((t ≡ u) ⊎ (t ≡ u → ⊥))
      → (u ≡ 0) ⊎ IsOpen (function_of words' u) (argument_of words' u) (s'.threads u)
  last_opened u few one (inl is) =
      let bad : 2 ≡ 1 = sym two ∙ subst (λ u. start_of words' u ≡ 1) (sym is) one in absurd (cc (bad))
  last_opened u few one (inr ne) =
      by (seats.opened u few (sym (last_start u ne) ∙ one))
    where
      by : ((u ≡ 0) ⊎ IsOpen (function_of words u) (argument_of words u) (s.threads u))
          → (u ≡ 0) ⊎ IsOpen (function_of words' u) (argument_of words' u) (s'.threads u)
      by (inl is) = inl is
      by (inr is) = inr (subst (IsOpen (function_of words' u) (argument_of words' u)) (sym (others u ne))
          (subst (λ f. IsOpen f (argument_of words' u) (s.threads u)) (sym (last_function u few))
          (subst (λ x. IsOpen (function_of words u) x (s.threads u)) (sym (last_argument u few)) is)))

  last_ended : (u : ℕ) → u < 16 → IsStopped (s'.threads u) → ((t ≡ u) ⊎ (t ≡ u → ⊥)) → start_of words' u ≡ 2
  last_ended u few stopped (inl is) = subst (λ u. start_of words' u ≡ 2) is two
  last_ended u few stopped (inr ne) =
      last_start u ne ∙ seats.ended u few (subst IsStopped (others u ne) stopped)

  last_stopped : (u : ℕ) → u < 16 → start_of words' u ≡ 2 → ((t ≡ u) ⊎ (t ≡ u → ⊥)) → IsStopped (s'.threads u)
  last_stopped u few is_two (inl is) = subst (λ u. IsStopped (s'.threads u)) is stop
  last_stopped u few is_two (inr ne) =
      subst IsStopped (sym (others u ne)) (seats.stopped u few (sym (last_start u ne) ∙ is_two))

  last_closed : (n : ℕ) → (start_of words n ≡ 1 → ⊥) → ((t ≡ n) ⊎ (t ≡ n → ⊥)) → start_of words' n ≡ 1 → ⊥
  last_closed n closed (inl is) one =
      let bad : 2 ≡ 1 = sym two ∙ subst (λ u. start_of words' u ≡ 1) (sym is) one in absurd (cc (bad))
  last_closed n closed (inr ne) one = closed (sym (last_start n ne) ∙ one)

  last_meant : (n function argument : ℕ) → IsMeant function argument (s.threads n) → ((t ≡ n) ⊎ (t ≡ n → ⊥))
      → IsMeant function argument (s'.threads n)
  last_meant n function argument is (inl e) =
      subst (λ n. IsMeant function argument (s'.threads n)) e (stopped_meant function argument (s'.threads t) stop)
  last_meant n function argument is (inr ne) = subst (IsMeant function argument) (sym (others n ne)) is

  last_told : (n function argument : ℕ) → IsToldOf function argument (s.threads n) → ((t ≡ n) ⊎ (t ≡ n → ⊥))
      → IsToldOf function argument (s'.threads n)
  last_told n function argument is (inl e) =
      subst (λ n. IsToldOf function argument (s'.threads n)) e (stopped_told function argument (s'.threads t) stop)
  last_told n function argument is (inr ne) = subst (IsToldOf function argument) (sym (others n ne)) is

  pub last_step : SeatStep t words words' s s' maker maker a
  last_step = record {
    given = omega (arith, given);
    unstarted = λ u le. last_unstarted u le (cases_eq t u);
    opened = λ u few one. last_opened u few one (cases_eq t u);
    ended = λ u few stopped. last_ended u few stopped (cases_eq t u);
    stopped = λ u few is_two. last_stopped u few is_two (cases_eq t u);
    here = here;
    begun = λ u few ne one. (last_start u ne ∙ one, last_function u few);
    kept = λ u n ne function argument c is. (
      record {
        made = c.made;
        few = c.few;
        given = omega (arith, c.given, given);
        closed = last_closed n c.closed (cases_eq t n);
      },
      last_function n c.few,
      last_argument n c.few,
    );
    meant = λ u n ne function argument c is. last_meant n function argument is (cases_eq t n);
    told_of = λ u n ne function argument c is. last_told n function argument is (cases_eq t n);
  }
