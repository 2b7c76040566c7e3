-- The seats behind the steps by which a thread tells another one what it is to run, and lets it begin. They change no state.
use Rattle.std.proofs.Common.{◌≡◌, ℕ, ◌<◌, List, sym, ap, ◌∙◌, subst, inl, inr, ◌⊎◌, arith}
use Rattle.std.proofs.lemmas.Bool.{cases_eq}
use Rattle.ds_plain.specs.State.{Phase, NotGiven, Closed, Ready, Going, Stopped, State}
use Rattle.ds_plain.specs.Plain.{IsStopped}
use Rattle.ds_plain.specs.Thread.{Thread}
use Rattle.ds_plain_laws.proofs.Seats.{IsOpen, IsToldOf, start_of, function_of, argument_of, Creates, IsSeated}
use Rattle.ds_plain_laws.proofs.Seats.{Seats, SeatStep}

module _ (t n : ℕ) (words words' : List ℕ) (s : State) (threads : ℕ → Thread) (maker : ℕ → ℕ) (a : Thread)
    (seats : Seats words s threads maker) (creates : Creates words s maker t n)
    (functions : (u : ℕ) → u < 16 → (n ≡ u → ⊥) → function_of words' u ≡ function_of words u)
    (arguments : (u : ℕ) → u < 16 → (n ≡ u → ⊥) → argument_of words' u ≡ argument_of words u)
    (here : t < 16 → IsSeated words' s maker t a.position) where
  -- what another thread starts is not what t starts
  not_mine : (u m : ℕ) → (t ≡ u → ⊥) → Creates words s maker u m → n ≡ m → ⊥
  not_mine u m ne c is = ne (sym creates.made ∙ (ap maker is ∙ c.made))

  -- a thread that may begin is not the one that t starts
  not_open : (u : ℕ) → start_of words u ≡ 1 → n ≡ u → ⊥
  not_open u one is = creates.closed (subst (λ u. start_of words u ≡ 1) (sym is) one)

  open_on : (u : ℕ) (phase : Phase) → u < 16 → (n ≡ u → ⊥)
      → ((u ≡ 0) ⊎ IsOpen (function_of words u) (argument_of words u) phase)
      → (u ≡ 0) ⊎ IsOpen (function_of words' u) (argument_of words' u) phase
  open_on u phase few ne (inl is) = inl is
  open_on u phase few ne (inr is) =
      inr (subst (λ f. IsOpen f (argument_of words' u) phase) (sym (functions u few ne))
      (subst (λ x. IsOpen (function_of words u) x phase) (sym (arguments u few ne)) is))

  -- it stores a word that tells what the other one is to run
  pub tell_step : ((u : ℕ) → u < 16 → start_of words' u ≡ start_of words u)
      → SeatStep t words words' s s maker maker a
  tell_step starts = record {
    given = omega arith;
    unstarted = seats.unstarted;
    opened = λ u few one.
        let before : start_of words u ≡ 1 = sym (starts u few) ∙ one in
        open_on u (s.threads u) few (not_open u before) (seats.opened u few before);
    ended = λ u few stopped. starts u few ∙ seats.ended u few stopped;
    stopped = λ u few two. seats.stopped u few (sym (starts u few) ∙ two);
    here = here;
    begun = λ u few ne one. (starts u few ∙ one, functions u few (not_open u one));
    kept = λ u m ne f x c is. (
      record {
        made = c.made;
        few = c.few;
        given = c.given;
        closed = λ one. c.closed (sym (starts m c.few) ∙ one);
      },
      functions m c.few (not_mine u m ne c),
      arguments m c.few (not_mine u m ne c),
    );
    meant = λ u m ne f x c is. is;
    told_of = λ u m ne f x c is. is;
  }

  told_open : (function argument : ℕ) (phase : Phase) → IsToldOf function argument phase
      → IsOpen function argument phase
  told_open function argument NotGiven is = is
  told_open function argument (Closed f x) is = is
  told_open function argument (Ready f x) is = is
  told_open function argument (Going rest doing) is = absurd is
  told_open function argument (Stopped stop) is = is

  -- it lets the other one begin, which had not ended
  module _ (told : IsToldOf (function_of words' n) (argument_of words' n) (s.threads n)) (zero_before : start_of words n ≡ 0)
      (one_behind : start_of words' n ≡ 1)
      (starts : (u : ℕ) → u < 16 → (n ≡ u → ⊥) → start_of words' u ≡ start_of words u) where
    let_opened : (u : ℕ) → u < 16 → start_of words' u ≡ 1 → ((n ≡ u) ⊎ (n ≡ u → ⊥))
        → (u ≡ 0) ⊎ IsOpen (function_of words' u) (argument_of words' u) (s.threads u)
    let_opened u few one (inl is) =
        inr (subst (λ u. IsOpen (function_of words' u) (argument_of words' u) (s.threads u)) is
        (told_open (function_of words' n) (argument_of words' n) (s.threads n) told))
    let_opened u few one (inr ne) =
        open_on u (s.threads u) few ne (seats.opened u few (sym (starts u few ne) ∙ one))

    let_ended : (u : ℕ) → u < 16 → IsStopped (s.threads u) → ((n ≡ u) ⊎ (n ≡ u → ⊥)) → start_of words' u ≡ 2
    let_ended u few stopped (inl is) =
        let two : start_of words n ≡ 2 =
        seats.ended n creates.few (subst (λ u. IsStopped (s.threads u)) (sym is) stopped) in
        let bad : 0 ≡ 2 = sym zero_before ∙ two in
        absurd (cc (bad))
    let_ended u few stopped (inr ne) = starts u few ne ∙ seats.ended u few stopped

    let_stopped : (u : ℕ) → u < 16 → start_of words' u ≡ 2 → ((n ≡ u) ⊎ (n ≡ u → ⊥)) → IsStopped (s.threads u)
    let_stopped u few two (inl is) =
        let bad : 1 ≡ 2 = sym one_behind ∙ subst (λ u. start_of words' u ≡ 2) (sym is) two in absurd (cc (bad))
    let_stopped u few two (inr ne) = seats.stopped u few (sym (starts u few ne) ∙ two)

    pub let_step : SeatStep t words words' s s maker maker a
    let_step = record {
      given = omega arith;
      unstarted = seats.unstarted;
      opened = λ u few one. let_opened u few one (cases_eq n u);
      ended = λ u few stopped. let_ended u few stopped (cases_eq n u);
      stopped = λ u few two. let_stopped u few two (cases_eq n u);
      here = here;
      begun = λ u few ne one.
          (starts u few (not_open u one) ∙ one, functions u few (not_open u one));
      kept = λ u m ne f x c is. (
        record {
          made = c.made;
          few = c.few;
          given = c.given;
          closed = λ one. c.closed (sym (starts m c.few (not_mine u m ne c)) ∙ one);
        },
        functions m c.few (not_mine u m ne c),
        arguments m c.few (not_mine u m ne c),
      );
      meant = λ u m ne f x c is. is;
      told_of = λ u m ne f x c is. is;
    }
