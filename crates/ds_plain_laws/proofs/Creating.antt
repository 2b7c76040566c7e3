-- The seats behind the steps of a thread that starts another one.
use Rattle.std.proofs.Common.{◌≡◌, ℕ, suc, ◌<◌, ◌≤◌, List, refl, sym, ap, ◌∙◌, subst, inl, inr, ◌⊎◌, arith}
use Rattle.std.proofs.lemmas.Bool.{cases_eq}
use Rattle.ds_plain.specs.State.{Phase, NotGiven, Closed, Ready, Going, Stopped, State, replaced}
use Rattle.ds_plain.specs.Plain.{IsStopped, phase_given, phase_opened}
use Rattle.ds_plain.specs.Starting.{start_word, function_word, argument_word}
use Rattle.ds_plain.specs.Thread.{Thread}
use Rattle.ds_plain_laws.proofs.Choices.{replaced_same, replaced_other}
use Rattle.ds_plain_laws.proofs.Phases.{Passes, Goes}
use Rattle.ds_plain_laws.proofs.Seats.{IsUnstarted, IsOpen, IsMeant, IsToldOf, told_meant, goes_meant, goes_unstarted}
use Rattle.ds_plain_laws.proofs.Seats.{goes_stopped, goes_open, start_of, function_of, argument_of, Creates, IsSeated, Seats}
use Rattle.ds_plain_laws.proofs.Seats.{SeatStep, unstarted_keep, stopped_keep, stopped_back, open_keep, meant_keep, told_keep}
use Rattle.ds_plain_laws.proofs.Seating.{SameSeats}

-- A NUMBER IS GIVEN OUT

given_meant : (function argument : ℕ) (phase : Phase) → IsUnstarted phase
    → IsMeant function argument (phase_given function argument phase)
given_meant function argument NotGiven is = (refl, refl)
given_meant function argument (Closed f a) is = absurd is
given_meant function argument (Ready f a) is = absurd is
given_meant function argument (Going rest doing) is = absurd is
given_meant function argument (Stopped stop) is = tt

given_stopped : (function argument : ℕ) (phase : Phase) → IsStopped (phase_given function argument phase)
    → IsStopped phase
given_stopped function argument NotGiven is = is
given_stopped function argument (Closed f a) is = absurd is
given_stopped function argument (Ready f a) is = absurd is
given_stopped function argument (Going rest doing) is = absurd is
given_stopped function argument (Stopped stop) is = is

stopped_given : (function argument : ℕ) (phase : Phase) → IsStopped phase
    → IsStopped (phase_given function argument phase)
stopped_given function argument NotGiven is = absurd is
stopped_given function argument (Closed f a) is = absurd is
stopped_given function argument (Ready f a) is = absurd is
stopped_given function argument (Going rest doing) is = absurd is
stopped_given function argument (Stopped stop) is = tt

-- one that was not given out and is open has ended
unstarted_open : (function argument : ℕ) (phase : Phase) → IsUnstarted phase → IsOpen function argument phase
    → IsStopped phase
unstarted_open function argument NotGiven un is = absurd is
unstarted_open function argument (Closed f a) un is = absurd un
unstarted_open function argument (Ready f a) un is = absurd un
unstarted_open function argument (Going rest doing) un is = absurd un
unstarted_open function argument (Stopped stop) un is = tt

module _ (words : List ℕ) (s : State) (threads : ℕ → Thread) (maker : ℕ → ℕ) (seats : Seats words s threads maker) where
  -- the next number to be given out is not that of a thread that may begin
  pub next_closed : s.given < 16 → start_of words s.given ≡ 1 → ⊥
  next_closed few one = by (seats.opened s.given few one)
    where
      by : ((s.given ≡ 0) ⊎ IsOpen (function_of words s.given) (argument_of words s.given) (s.threads s.given)) → ⊥
      by (inl is) = absurd (omega (arith, is, seats.some))
      by (inr is) =
          let two = seats.ended s.given few (unstarted_open (function_of words s.given) (argument_of words s.given)
          (s.threads s.given) (seats.unstarted s.given (omega arith)) is) in
          let bad : 1 ≡ 2 = sym one ∙ two in
          absurd (cc (bad))

-- thread t, which runs, draws the number that is given out next, for this function with this argument
module _ (t function argument : ℕ) (words words' : List ℕ) (s s' : State) (threads : ℕ → Thread) (maker : ℕ → ℕ)
    (a : Thread) (seats : Seats words s threads maker) (same : SameSeats words words') (few_n : s.given < 16)
    (given : s'.given ≡ suc s.given) (goes : Goes (s.threads t)) (goes' : Goes (s'.threads t))
    (drawn : s'.threads s.given ≡ phase_given function argument (s.threads s.given))
    (others : (u : ℕ) → (t ≡ u → ⊥) → (s.given ≡ u → ⊥) → s'.threads u ≡ s.threads u)
    (here : t < 16 → IsSeated words' s' (replaced maker s.given t) t a.position) where
  abbrev n : ℕ
  n = s.given

  abbrev maker' : ℕ → ℕ
  maker' = replaced maker n t

  draw_start : (u : ℕ) → u < 16 → start_of words' u ≡ start_of words u
  draw_start u few = same (start_word u) (omega arith) (omega (arith, few))

  draw_function : (u : ℕ) → u < 16 → function_of words' u ≡ function_of words u
  draw_function u few = same (function_word u) (omega arith) (omega (arith, few))

  draw_argument : (u : ℕ) → u < 16 → argument_of words' u ≡ argument_of words u
  draw_argument u few = same (argument_word u) (omega arith) (omega (arith, few))

  -- it is not t itself
  apart : t ≡ n → ⊥
  apart is =
      goes_unstarted (s.threads t) goes
      (subst (λ u. IsUnstarted (s.threads u)) (sym is) (seats.unstarted n (omega arith)))

  draw_unstarted : (u : ℕ) → s'.given ≤ u → ((t ≡ u) ⊎ (t ≡ u → ⊥)) → IsUnstarted (s'.threads u)
  draw_unstarted u le (inl is) =
      absurd (goes_unstarted (s.threads t) goes
      (subst (λ u. IsUnstarted (s.threads u)) (sym is) (seats.unstarted u (omega (arith, le, given)))))
  draw_unstarted u le (inr ne) =
      subst IsUnstarted (sym (others u ne (λ e. omega (arith, e, le, given))))
      (seats.unstarted u (omega (arith, le, given)))

  draw_opened : (u : ℕ) → u < 16 → start_of words' u ≡ 1 → ((t ≡ u) ⊎ (t ≡ u → ⊥)) → ((n ≡ u) ⊎ (n ≡ u → ⊥))
      → (u ≡ 0) ⊎ IsOpen (function_of words' u) (argument_of words' u) (s'.threads u)
  draw_opened u few one (inl is) other =
      inr (subst (λ u. IsOpen (function_of words' u) (argument_of words' u) (s'.threads u)) is
      (goes_open (function_of words' t) (argument_of words' t) (s'.threads t) goes'))
  draw_opened u few one (inr ne) (inl is) =
      absurd (next_closed words s threads maker seats few_n
      (subst (λ u. start_of words u ≡ 1) (sym is) (sym (draw_start u few) ∙ one)))
  draw_opened u few one (inr ne) (inr other) = by (seats.opened u few (sym (draw_start u few) ∙ one))
    where
      by : ((u ≡ 0) ⊎ IsOpen (function_of words u) (argument_of words u) (s.threads u))
          → (u ≡ 0) ⊎ IsOpen (function_of words' u) (argument_of words' u) (s'.threads u)
      by (inl is) = inl is
      by (inr is) = inr (subst (IsOpen (function_of words' u) (argument_of words' u)) (sym (others u ne other))
          (subst (λ f. IsOpen f (argument_of words' u) (s.threads u)) (sym (draw_function u few))
          (subst (λ x. IsOpen (function_of words u) x (s.threads u)) (sym (draw_argument u few)) is)))

  draw_ended : (u : ℕ) → u < 16 → IsStopped (s'.threads u) → ((t ≡ u) ⊎ (t ≡ u → ⊥)) → ((n ≡ u) ⊎ (n ≡ u → ⊥))
      → start_of words' u ≡ 2
  draw_ended u few stopped (inl is) other =
      absurd (goes_stopped (s'.threads t) goes' (subst (λ u. IsStopped (s'.threads u)) (sym is) stopped))
  draw_ended u few stopped (inr ne) (inl is) =
      draw_start u few ∙ seats.ended u few (subst (λ u. IsStopped (s.threads u)) is
      (given_stopped function argument (s.threads n)
      (subst IsStopped drawn (subst (λ u. IsStopped (s'.threads u)) (sym is) stopped))))
  draw_ended u few stopped (inr ne) (inr other) =
      draw_start u few ∙ seats.ended u few (subst IsStopped (others u ne other) stopped)

  draw_stopped : (u : ℕ) → u < 16 → start_of words' u ≡ 2 → ((t ≡ u) ⊎ (t ≡ u → ⊥)) → ((n ≡ u) ⊎ (n ≡ u → ⊥))
      → IsStopped (s'.threads u)
  draw_stopped u few two (inl is) other =
      absurd (goes_stopped (s.threads t) goes
      (subst (λ u. IsStopped (s.threads u)) (sym is) (seats.stopped u few (sym (draw_start u few) ∙ two))))
  draw_stopped u few two (inr ne) (inl is) =
      subst (λ u. IsStopped (s'.threads u)) is
      (subst IsStopped (sym drawn) (stopped_given function argument (s.threads n)
      (subst (λ u. IsStopped (s.threads u)) (sym is) (seats.stopped u few (sym (draw_start u few) ∙ two)))))
  draw_stopped u few two (inr ne) (inr other) =
      subst IsStopped (sym (others u ne other)) (seats.stopped u few (sym (draw_start u few) ∙ two))

  earlier : (u m : ℕ) → Creates words s maker u m → n ≡ m → ⊥
  earlier u m c is = omega (arith, is, c.given)

  draw_kept : (u m : ℕ) → Creates words s maker u m
      → Creates words' s' maker' u m × (function_of words' m ≡ function_of words m)
      × (argument_of words' m ≡ argument_of words m)
  draw_kept u m c = (
    record {
      made = replaced_other maker n t m (earlier u m c) ∙ c.made;
      few = c.few;
      given = omega (arith, c.given, given);
      closed = λ is. c.closed (sym (draw_start m c.few) ∙ is);
    },
    draw_function m c.few,
    draw_argument m c.few,
  )

  draw_meant : (u m f x : ℕ) → Creates words s maker u m → IsMeant f x (s.threads m) → ((t ≡ m) ⊎ (t ≡ m → ⊥))
      → IsMeant f x (s'.threads m)
  draw_meant u m f x c is (inl e) =
      absurd (goes_meant f x (s.threads t) goes (subst (λ m. IsMeant f x (s.threads m)) (sym e) is))
  draw_meant u m f x c is (inr ne) = subst (IsMeant f x) (sym (others m ne (earlier u m c))) is

  draw_told : (u m f x : ℕ) → Creates words s maker u m → IsToldOf f x (s.threads m) → ((t ≡ m) ⊎ (t ≡ m → ⊥))
      → IsToldOf f x (s'.threads m)
  draw_told u m f x c is (inl e) =
      absurd (goes_meant f x (s.threads t) goes (subst (λ m. IsMeant f x (s.threads m)) (sym e)
      (told_meant f x (s.threads m) is)))
  draw_told u m f x c is (inr ne) = subst (IsToldOf f x) (sym (others m ne (earlier u m c))) is

  pub draw_step : SeatStep t words words' s s' maker maker' a
  draw_step = record {
    given = omega (arith, given);
    unstarted = λ u le. draw_unstarted u le (cases_eq t u);
    opened = λ u few one. draw_opened u few one (cases_eq t u) (cases_eq n u);
    ended = λ u few stopped. draw_ended u few stopped (cases_eq t u) (cases_eq n u);
    stopped = λ u few two. draw_stopped u few two (cases_eq t u) (cases_eq n u);
    here = here;
    begun = λ u few ne one. (draw_start u few ∙ one, draw_function u few);
    kept = λ u m ne f x c is. draw_kept u m c;
    meant = λ u m ne f x c is. draw_meant u m f x c is (cases_eq t m);
    told_of = λ u m ne f x c is. draw_told u m f x c is (cases_eq t m);
  }

  -- thread t then starts the thread of that number
  pub draw_creates : Creates words' s' maker' t n × IsMeant function argument (s'.threads n)
  draw_creates = (
    record {
      made = replaced_same maker n t;
      few = few_n;
      given = omega (arith, given);
      closed = λ one. next_closed words s threads maker seats few_n (sym (draw_start n few_n) ∙ one);
    },
    subst (IsMeant function argument) (sym drawn)
        (given_meant function argument (s.threads n) (seats.unstarted n (omega arith))),
  )

-- ITS NUMBER IS STORED

opened_told : (function argument : ℕ) (phase : Phase) → IsMeant function argument phase
    → IsToldOf function argument (phase_opened phase)
opened_told function argument NotGiven is = is
opened_told function argument (Closed f a) is = is
opened_told function argument (Ready f a) is = is
opened_told function argument (Going rest doing) is = is
opened_told function argument (Stopped stop) is = is

opened_stopped : (phase : Phase) → IsStopped (phase_opened phase) → IsStopped phase
opened_stopped NotGiven is = is
opened_stopped (Closed function argument) is = absurd is
opened_stopped (Ready function argument) is = is
opened_stopped (Going rest doing) is = is
opened_stopped (Stopped stop) is = is

stopped_opened : (phase : Phase) → IsStopped phase → IsStopped (phase_opened phase)
stopped_opened NotGiven is = is
stopped_opened (Closed function argument) is = absurd is
stopped_opened (Ready function argument) is = is
stopped_opened (Going rest doing) is = is
stopped_opened (Stopped stop) is = is

-- thread t, which runs, stores the number of thread n, which it starts
module _ (t n function argument : ℕ) (words words' : List ℕ) (s s' : State) (threads : ℕ → Thread) (maker : ℕ → ℕ)
    (a : Thread) (seats : Seats words s threads maker) (same : SameSeats words words') (given : s'.given ≡ s.given)
    (few_t : t < 16) (goes : Goes (s.threads t)) (goes' : Goes (s'.threads t)) (creates : Creates words s maker t n)
    (meant : IsMeant function argument (s.threads n)) (middle : Phase) (passes : Passes (s.threads n) middle)
    (opened : s'.threads n ≡ phase_opened middle)
    (others : (u : ℕ) → (t ≡ u → ⊥) → (n ≡ u → ⊥) → Passes (s.threads u) (s'.threads u))
    (here : t < 16 → IsSeated words' s' maker t a.position) where
  store_start : (u : ℕ) → u < 16 → start_of words' u ≡ start_of words u
  store_start u few = same (start_word u) (omega arith) (omega (arith, few))

  store_function : (u : ℕ) → u < 16 → function_of words' u ≡ function_of words u
  store_function u few = same (function_word u) (omega arith) (omega (arith, few))

  store_argument : (u : ℕ) → u < 16 → argument_of words' u ≡ argument_of words u
  store_argument u few = same (argument_word u) (omega arith) (omega (arith, few))

  store_unstarted : (u : ℕ) → s'.given ≤ u → ((t ≡ u) ⊎ (t ≡ u → ⊥)) → IsUnstarted (s'.threads u)
  store_unstarted u le (inl is) =
      absurd (goes_unstarted (s.threads t) goes
      (subst (λ u. IsUnstarted (s.threads u)) (sym is) (seats.unstarted u (omega (arith, le, given)))))
  store_unstarted u le (inr ne) =
      unstarted_keep (s.threads u) (s'.threads u) (others u ne (λ e. omega (arith, e, le, given, creates.given)))
      (seats.unstarted u (omega (arith, le, given)))

  store_opened : (u : ℕ) → u < 16 → start_of words' u ≡ 1 → ((t ≡ u) ⊎ (t ≡ u → ⊥)) → ((n ≡ u) ⊎ (n ≡ u → ⊥))
      → (u ≡ 0) ⊎ IsOpen (function_of words' u) (argument_of words' u) (s'.threads u)
  store_opened u few one (inl is) other =
      inr (subst (λ u. IsOpen (function_of words' u) (argument_of words' u) (s'.threads u)) is
      (goes_open (function_of words' t) (argument_of words' t) (s'.threads t) goes'))
  store_opened u few one (inr ne) (inl is) =
      absurd (creates.closed (subst (λ u. start_of words u ≡ 1) (sym is) (sym (store_start u few) ∙ one)))
  store_opened u few one (inr ne) (inr other) = by (seats.opened u few (sym (store_start u few) ∙ one))
    where
      by : ((u ≡ 0) ⊎ IsOpen (function_of words u) (argument_of words u) (s.threads u))
          → (u ≡ 0) ⊎ IsOpen (function_of words' u) (argument_of words' u) (s'.threads u)
      by (inl is) = inl is
      by (inr is) = inr (open_keep (function_of words' u) (argument_of words' u) (s.threads u) (s'.threads u)
          (others u ne other)
          (subst (λ f. IsOpen f (argument_of words' u) (s.threads u)) (sym (store_function u few))
          (subst (λ x. IsOpen (function_of words u) x (s.threads u)) (sym (store_argument u few)) is)))

  store_ended : (u : ℕ) → u < 16 → IsStopped (s'.threads u) → ((t ≡ u) ⊎ (t ≡ u → ⊥)) → ((n ≡ u) ⊎ (n ≡ u → ⊥))
      → start_of words' u ≡ 2
  store_ended u few stopped (inl is) other =
      absurd (goes_stopped (s'.threads t) goes' (subst (λ u. IsStopped (s'.threads u)) (sym is) stopped))
  store_ended u few stopped (inr ne) (inl is) =
      store_start u few ∙ seats.ended u few (subst (λ u. IsStopped (s.threads u)) is
      (stopped_back (s.threads n) middle passes (opened_stopped middle
      (subst IsStopped opened (subst (λ u. IsStopped (s'.threads u)) (sym is) stopped)))))
  store_ended u few stopped (inr ne) (inr other) =
      store_start u few
      ∙ seats.ended u few (stopped_back (s.threads u) (s'.threads u) (others u ne other) stopped)

  store_stopped : (u : ℕ) → u < 16 → start_of words' u ≡ 2 → ((t ≡ u) ⊎ (t ≡ u → ⊥)) → ((n ≡ u) ⊎ (n ≡ u → ⊥))
      → IsStopped (s'.threads u)
  store_stopped u few two (inl is) other =
      absurd (goes_stopped (s.threads t) goes
      (subst (λ u. IsStopped (s.threads u)) (sym is) (seats.stopped u few (sym (store_start u few) ∙ two))))
  store_stopped u few two (inr ne) (inl is) =
      subst (λ u. IsStopped (s'.threads u)) is
      (subst IsStopped (sym opened) (stopped_opened middle (stopped_keep (s.threads n) middle passes
      (subst (λ u. IsStopped (s.threads u)) (sym is) (seats.stopped u few (sym (store_start u few) ∙ two))))))
  store_stopped u few two (inr ne) (inr other) =
      stopped_keep (s.threads u) (s'.threads u) (others u ne other)
      (seats.stopped u few (sym (store_start u few) ∙ two))

  -- what another thread starts is not what t starts
  not_mine : (u m : ℕ) → (t ≡ u → ⊥) → Creates words s maker u m → n ≡ m → ⊥
  not_mine u m ne c is = ne (sym creates.made ∙ (ap maker is ∙ c.made))

  store_kept : (u m : ℕ) → Creates words s maker u m
      → Creates words' s' maker u m × (function_of words' m ≡ function_of words m)
      × (argument_of words' m ≡ argument_of words m)
  store_kept u m c = (
    record {
      made = c.made;
      few = c.few;
      given = omega (arith, c.given, given);
      closed = λ is. c.closed (sym (store_start m c.few) ∙ is);
    },
    store_function m c.few,
    store_argument m c.few,
  )

  store_meant : (u m f x : ℕ) → (t ≡ u → ⊥) → Creates words s maker u m → IsMeant f x (s.threads m)
      → ((t ≡ m) ⊎ (t ≡ m → ⊥)) → IsMeant f x (s'.threads m)
  store_meant u m f x ne c is (inl e) =
      absurd (goes_meant f x (s.threads t) goes (subst (λ m. IsMeant f x (s.threads m)) (sym e) is))
  store_meant u m f x ne c is (inr other) =
      meant_keep f x (s.threads m) (s'.threads m) (others m other (not_mine u m ne c)) is

  store_told : (u m f x : ℕ) → (t ≡ u → ⊥) → Creates words s maker u m → IsToldOf f x (s.threads m)
      → ((t ≡ m) ⊎ (t ≡ m → ⊥)) → IsToldOf f x (s'.threads m)
  store_told u m f x ne c is (inl e) =
      absurd (goes_meant f x (s.threads t) goes (subst (λ m. IsMeant f x (s.threads m)) (sym e)
      (told_meant f x (s.threads m) is)))
  store_told u m f x ne c is (inr other) =
      told_keep f x (s.threads m) (s'.threads m) (others m other (not_mine u m ne c)) is

  pub store_step : SeatStep t words words' s s' maker maker a
  store_step = record {
    given = omega (arith, given);
    unstarted = λ u le. store_unstarted u le (cases_eq t u);
    opened = λ u few one. store_opened u few one (cases_eq t u) (cases_eq n u);
    ended = λ u few stopped. store_ended u few stopped (cases_eq t u) (cases_eq n u);
    stopped = λ u few two. store_stopped u few two (cases_eq t u) (cases_eq n u);
    here = here;
    begun = λ u few ne one. (store_start u few ∙ one, store_function u few);
    kept = λ u m ne f x c is. store_kept u m c;
    meant = λ u m ne f x c is. store_meant u m f x ne c is (cases_eq t m);
    told_of = λ u m ne f x c is. store_told u m f x ne c is (cases_eq t m);
  }

  -- it may then be told what it is to run
  pub store_creates : Creates words' s' maker t n × IsToldOf function argument (s'.threads n)
  store_creates = (
    (store_kept t n creates).0,
    subst (IsToldOf function argument) (sym opened)
        (opened_told function argument middle (meant_keep function argument (s.threads n) middle passes meant)),
  )
