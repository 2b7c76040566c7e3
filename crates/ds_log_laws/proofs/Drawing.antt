-- What a draw of a log makes of the logs.
use Rattle.std.proofs.Common.{◌≡◌, ℕ, suc, ◌+◌, ◌%◌, ◌^◌, ◌<◌, ◌≤◌, nat_lt, List, length, refl, sym, ap, ◌∙◌}
use Rattle.std.proofs.Common.{subst, inl, inr, ◌⊎◌, arith, slice_index, slice_set, mod-eq_of_lt}
use Rattle.std.proofs.lemmas.Bool.{cases_eq, cases_lt}
use Rattle.std.proofs.lemmas.Bool.Decides.{nat_tests}
use Rattle.std.proofs.lemmas.List.{get_or-set_same, get_or-set_other}
use Rattle.ds_map.specs.Bounds.{Bounds}
use Rattle.ds_map.specs.Words.{first_program_word}
use Rattle.ds_step.specs.declared.FullWhat.TheVariants as tables
use Rattle.ds_step.specs.declared.Step.{Step}
use Rattle.ds_plain.specs.declared.ListAt.TheVariants.{StoreHeader}
use Rattle.ds_plain.specs.State.{replaced}
use Rattle.ds_plain.specs.Listing.{home_word, header_word, entry_word, ListsOn, FailsList, behind_log_draw}
use Rattle.ds_plain.specs.Noting.{behind_list}
use Rattle.ds_log_laws.proofs.Choices.{of_test, replaced_same, replaced_other}
use Rattle.ds_log_laws.proofs.Links.{home, header, entry, Logs, HasDrawn, IsDrawn, Counted, Past, Kept, KeptAll}
use Rattle.ds_log_laws.proofs.Links.{OwnsAll, OwnsOthers, Knows, IsLocation, Lists}
use Rattle.ds_log_laws.proofs.Others.{Later, Passes, same_holds, own_on}
use Rattle.ds_log_laws.proofs.Goes.{Goes}

module _ (lim : Bounds) (traces : List (List Step)) (words : List ℕ) (logs : Logs) (t : ℕ) (past : Past)
    (lives : ℕ → ℕ) (few : t < 16) (counted : Counted lim traces words logs)
    (roomy : first_program_word lim ≤ length words) (place life : ℕ) (owns : OwnsAll lim traces words logs t past lives)
    (knows : Knows lim traces words logs t past lives place life) (no_home : home lim words t place ≡ 0)
    (bound : logs.count + 1 < 2 ^ 64) where
  abbrev pub risen : List ℕ
  risen = slice_set words 3 ((slice_index words 3 + 1) % 2 ^ 64)

  abbrev pub one_more : Logs
  one_more = record {
    count = suc logs.count;
    place = replaced logs.place logs.count place;
    owner = replaced logs.owner logs.count t;
  }

  risen_homes : (u place' : ℕ) → home lim risen u place' ≡ home lim words u place'
  risen_homes u place' =
      get_or-set_other words 3 (home_word lim u place') ((slice_index words 3 + 1) % 2 ^ 64) 0
      (λ e. omega (arith, e))

  place_before : (n : ℕ) → n < logs.count → one_more.place n ≡ logs.place n
  place_before n lt = replaced_other logs.place logs.count place n (λ e. omega (arith, e, lt))

  owner_before : (n : ℕ) → n < logs.count → one_more.owner n ≡ logs.owner n
  owner_before n lt = replaced_other logs.owner logs.count t n (λ e. omega (arith, e, lt))

  place_now : (n : ℕ) → logs.count ≡ n → one_more.place n ≡ place
  place_now n is = subst (λ n. one_more.place n ≡ place) is (replaced_same logs.place logs.count place)

  owner_now : (n : ℕ) → logs.count ≡ n → one_more.owner n ≡ t
  owner_now n is = subst (λ n. one_more.owner n ≡ t) is (replaced_same logs.owner logs.count t)

  before_or_now : (n : ℕ) → n < suc logs.count → (n < logs.count) ⊎ (logs.count ≡ n)
  before_or_now n lt = by (cases_lt n logs.count)
    where
      by : ((n < logs.count) ⊎ (logs.count ≤ n)) → (n < logs.count) ⊎ (logs.count ≡ n)
      by (inl less) = inl less
      by (inr more) = inr (omega (arith, lt, more))

  -- no log was drawn by this thread for this place before
  not_before : (n : ℕ) → n < logs.count → logs.place n ≡ place → logs.owner n ≡ t → ⊥
  not_before n lt place_is owner_is =
      (owns place knows.place_is).none no_home
      (record { number = n; drawn = lt; place_is = place_is; owner_is = owner_is })

  drawn_distinct : (n m : ℕ) → ((n < logs.count) ⊎ (logs.count ≡ n)) → ((m < logs.count) ⊎ (logs.count ≡ m))
      → one_more.place n ≡ one_more.place m → one_more.owner n ≡ one_more.owner m → n ≡ m
  drawn_distinct n m (inl ln) (inl lm) places owners =
      counted.distinct n m ln lm (sym (place_before n ln) ∙ (places ∙ place_before m lm))
      (sym (owner_before n ln) ∙ (owners ∙ owner_before m lm))
  drawn_distinct n m (inl ln) (inr im) places owners =
      absurd (not_before n ln (sym (place_before n ln) ∙ (places ∙ place_now m im))
      (sym (owner_before n ln) ∙ (owners ∙ owner_now m im)))
  drawn_distinct n m (inr is) (inl lm) places owners =
      absurd (not_before m lm (sym (place_before m lm) ∙ (sym places ∙ place_now n is))
      (sym (owner_before m lm) ∙ (sym owners ∙ owner_now n is)))
  drawn_distinct n m (inr is) (inr im) places owners = sym is ∙ im

  drawn_each : (n : ℕ) → ((n < logs.count) ⊎ (logs.count ≡ n))
      → IsDrawn lim traces (one_more.place n) (one_more.owner n)
  drawn_each n (inl ln) =
      subst (λ p. IsDrawn lim traces p (one_more.owner n)) (sym (place_before n ln))
      (subst (λ u. IsDrawn lim traces (logs.place n) u) (sym (owner_before n ln)) (counted.each n ln))
  drawn_each n (inr is) =
      subst (λ p. IsDrawn lim traces p (one_more.owner n)) (sym (place_now n is))
      (subst (λ u. IsDrawn lim traces place u) (sym (owner_now n is))
      (record { place_is = knows.place_is; owner_is = few; found = knows.found }))

  pub drawn_counted : Counted lim traces risen one_more
  drawn_counted = record {
    counter = get_or-set_same words 3 ((slice_index words 3 + 1) % 2 ^ 64) 0 (omega (arith, roomy))
        ∙ (ap (λ n. (n + 1) % 2 ^ 64) counted.counter ∙ (mod-eq_of_lt bound ∙ omega arith));
    distinct = λ n m ln lm. drawn_distinct n m (before_or_now n ln) (before_or_now m lm);
    each = λ n ln. drawn_each n (before_or_now n ln);
  }

  risen_header : (log : ℕ) → header lim risen log ≡ header lim words log
  risen_header log =
      get_or-set_other words 3 (header_word lim log) ((slice_index words 3 + 1) % 2 ^ 64) 0 (λ e. omega (arith, e))

  risen_entry : (log n : ℕ) → entry lim risen log n ≡ entry lim words log n
  risen_entry log n =
      get_or-set_other words 3 (entry_word lim log n) ((slice_index words 3 + 1) % 2 ^ 64) 0 (λ e. omega (arith, e))

  one_later : Later logs one_more
  one_later = record { least = omega arith; places = place_before; owners = owner_before }

  drawn_others : OwnsOthers lim traces risen one_more t past lives place
  drawn_others place' inside ne =
      own_on lim traces words risen logs one_more t past past lives lives place' one_later (record {
        home_is = risen_homes t place';
        before = λ has. had has (before_or_now has.number has.drawn);
        headers = λ log drawn few' place_is owner_is. risen_header log;
        holds = λ log since used drawn few' place_is owner_is is used_few.
            same_holds lim words risen log log used (λ n lt. risen_entry log n);
        noted = λ since. refl;
        has = λ since loc. refl;
        seen = omega arith;
        seen_now = λ now. now;
      }) (owns place' inside)
    where
      had : (has : HasDrawn one_more t place') → ((has.number < logs.count) ⊎ (logs.count ≡ has.number))
          → HasDrawn logs t place'
      had has (inl ln) = record {
        number = has.number;
        drawn = ln;
        place_is = sym (place_before has.number ln) ∙ has.place_is;
        owner_is = sym (owner_before has.number ln) ∙ has.owner_is;
      }
      had has (inr is) = absurd (ne (sym (place_now has.number is) ∙ has.place_is))

  drawn_kept : KeptAll lim traces risen one_more t past lives
  drawn_kept place' inside = by (cases_eq place place')
    where
      by : ((place ≡ place') ⊎ (place ≡ place' → ⊥)) → Kept lim traces risen one_more t past lives place'
      by (inl is) = subst (Kept lim traces risen one_more t past lives) is (record {
        unnoted = λ no since. (owns place knows.place_is).kept.unnoted no_home since;
        some = λ log at. absurd (omega (arith, at, risen_homes t place, no_home));
        seen_now = (owns place knows.place_is).kept.seen_now;
      })
      by (inr ne) = (drawn_others place' inside ne).kept

  drew_now : logs.count < lim.logs → Lists lim traces risen one_more t past lives (StoreHeader place life logs.count)
  drew_now less = (
    drawn_others,
    record {
      place_is = knows.place_is;
      found = knows.found;
      found_is = knows.found_is;
      seen_is = knows.seen_is;
      now = knows.now;
    },
    record {
      drawn = omega arith;
      few = less;
      place_is = place_now logs.count refl;
      owner_is = owner_now logs.count refl;
      no_home = risen_homes t place ∙ no_home;
      unnoted = (owns place knows.place_is).kept.unnoted no_home;
    },
  )

  pub drawn_goes : (loc old : ℕ) → IsLocation lim traces words logs t past lives loc → old ≡ logs.count
      → Goes lim traces risen one_more t past lives (behind_list loc place life (behind_log_draw lim place life old))
  drawn_goes loc old located is =
      of_test (λ next. Goes lim traces risen one_more t past lives (behind_list loc place life next))
      (nat_lt old lim.logs) (ListsOn (StoreHeader place life old)) (FailsList tables.Logs)
      (λ e. let less : logs.count < lim.logs = grind (arith, nat_tests, e, is) in (
        subst (λ n. Lists lim traces risen one_more t past lives (StoreHeader place life n)) (sym is) (drew_now less),
        located,
      ))
      (λ e. (grind (arith, nat_tests, e, is), drawn_kept))

  pub drawn_passes : Passes lim t words risen logs one_more
  drawn_passes = record {
    homes = λ u place' few' inside ne. risen_homes u place';
    headers = λ log drawn few' ne. risen_header log;
    entries = λ log n drawn few' ne lt. risen_entry log n;
    later = one_later;
    drawn = λ n lt. or_mine n (before_or_now n lt);
  }
    where
      or_mine : (n : ℕ) → ((n < logs.count) ⊎ (logs.count ≡ n)) → (n < logs.count) ⊎ (one_more.owner n ≡ t)
      or_mine n (inl ln) = inl ln
      or_mine n (inr is) = inr (owner_now n is)
