-- What the stores of a note make of the logs: to a header, to an entry, and to a home word.
use Rattle.std.proofs.Common.{◌≡◌, ℕ, ◌+◌, ◌*◌, ◌<◌, ◌≤◌, List, length, refl, sym, ap, ◌∙◌, subst, inl, inr, ◌⊎◌}
use Rattle.std.proofs.Common.{arith}
use Rattle.std.proofs.Common.{slice_set}
use Rattle.std.proofs.lemmas.Bool.{cases_eq}
use Rattle.std.proofs.lemmas.List.{get_or-set_same, get_or-set_other}
use Rattle.ds_map.specs.Bounds.{Bounds}
use Rattle.ds_map.specs.Words.{first_program_word}
use Rattle.ds_entry.specs.Header.{log_entries, header_of}
use Rattle.ds_step.specs.declared.Step.{Step}
use Rattle.ds_plain.specs.Listing.{home_word, header_word, entry_word}
use Rattle.ds_log_laws.specs.Reading.{entries_hold}
use Rattle.ds_log_laws.proofs.Links.{home, header, entry, is_in, Logs, Counted, Past, IsSound, Logged, Own, OwnsAll}
use Rattle.ds_log_laws.proofs.Links.{OwnsOthers, Knows, Drew, IsHeader}
use Rattle.ds_log_laws.proofs.Others.{Passes, later_same, same_holds, own_on}

module _ (lim : Bounds) (traces : List (List Step)) (words : List ℕ) (logs : Logs) (t : ℕ) (past : Past)
    (lives : ℕ → ℕ) (few : t < 16) (counted : Counted lim traces words logs)
    (roomy : first_program_word lim ≤ length words) where
  -- all is owned, where it is but for one place, and there
  pub owns_with : (words' : List ℕ) (past' : Past) (but : ℕ) → OwnsOthers lim traces words' logs t past' lives but
      → Own lim traces words' logs t past' lives but → OwnsAll lim traces words' logs t past' lives
  owns_with words' past' but others own place inside = by (cases_eq but place)
    where
      by : ((but ≡ place) ⊎ (but ≡ place → ⊥)) → Own lim traces words' logs t past' lives place
      by (inl is) = subst (Own lim traces words' logs t past' lives) is own
      by (inr ne) = others place inside ne

  -- what was noted for all places but one is the same
  pub record SameBut (past' : Past) (but : ℕ) : Type 0 where
    pub noted : (place life : ℕ) → (but ≡ place → ⊥) → past'.noted place life ≡ past.noted place life
    pub has : (place life loc : ℕ) → (but ≡ place → ⊥) → past'.has place life loc ≡ past.has place life loc
    pub seen : (place : ℕ) → past'.seen place ≡ past.seen place

  -- THE HEADER OF ITS OWN LOG

  module _ (log v place : ℕ) (drawn : log < logs.count) (few_logs : log < lim.logs) (place_is : logs.place log ≡ place)
      (owner_is : logs.owner log ≡ t) where
    abbrev pub stored : List ℕ
    stored = slice_set words (header_word lim log) v

    pub stored_home : (u place' : ℕ) → u < 16 → place' < 256 * lim.pages
        → home lim stored u place' ≡ home lim words u place'
    stored_home u place' few' inside =
        get_or-set_other words (header_word lim log) (home_word lim u place') v 0
        (λ e. omega (arith, e, few', inside))

    pub stored_header : header lim stored log ≡ v
    stored_header = get_or-set_same words (header_word lim log) v 0 (omega (arith, few_logs, roomy))

    stored_other : (log' : ℕ) → (log' ≡ log → ⊥) → header lim stored log' ≡ header lim words log'
    stored_other log' ne =
        get_or-set_other words (header_word lim log) (header_word lim log') v 0 (λ e. ne (omega (arith, e)))

    stored_entry : (log' n : ℕ) → n < log_entries → entry lim stored log' n ≡ entry lim words log' n
    stored_entry log' n lt =
        get_or-set_other words (header_word lim log) (entry_word lim log' n) v 0 (λ e. omega (arith, e, lt))

    stored_holds : (log' used : ℕ) → used ≤ log_entries
        → entries_hold lim stored log' used ≡ entries_hold lim words log' used
    stored_holds log' used used_few =
        same_holds lim words stored log' log' used (λ n lt. stored_entry log' n (omega (arith, lt, used_few)))

    pub stored_counted : Counted lim traces stored logs
    stored_counted = record {
      counter = get_or-set_other words (header_word lim log) 3 v 0 (λ e. omega (arith, e)) ∙ counted.counter;
      distinct = counted.distinct;
      each = counted.each;
    }

    pub stored_passes : Passes lim t words stored logs logs
    stored_passes = record {
      homes = λ u place' few' inside ne. stored_home u place' few' inside;
      headers = λ log' drawn' few' ne. stored_other log' (λ is. ne (sym owner_is ∙ ap logs.owner (sym is)));
      entries = λ log' n drawn' few' ne lt. stored_entry log' n lt;
      later = later_same logs;
      drawn = λ n lt. inl lt;
    }

    pub stored_others : (past' : Past) → SameBut past' place → OwnsOthers lim traces words logs t past lives place
        → OwnsOthers lim traces stored logs t past' lives place
    stored_others past' same owns place' inside ne =
        own_on lim traces words stored logs logs t past past' lives lives place' (later_same logs) (record {
          home_is = stored_home t place' few inside;
          before = λ has. has;
          headers = λ log' drawn' few' place_is' owner_is'.
              stored_other log' (λ is. ne (sym place_is ∙ (ap logs.place (sym is) ∙ place_is')));
          holds = λ log' life used drawn' few' place_is' owner_is' header_is used_few.
              stored_holds log' used used_few;
          noted = λ life. same.noted place' life ne;
          has = λ life loc. same.has place' life loc ne;
          seen = omega (arith, same.seen place');
          seen_now = λ now. omega (arith, now, same.seen place');
        }) (owns place' inside ne)

    -- it is at home there: so it owns the place behind the store
    pub stored_own : (past' : Past) (life used : ℕ) → place < 256 * lim.pages → home lim words t place ≡ log + 1
        → v ≡ header_of life used 0 → used ≤ log_entries → past'.noted place life ≡ used
        → ((loc : ℕ) → is_in loc (entries_hold lim words log used) ≡ past'.has place life loc)
        → ((later : ℕ) → life < later → past'.noted place later ≡ 0) → life ≤ past'.seen place
        → past'.seen place ≤ lives place → Own lim traces stored logs t past' lives place
    stored_own past' life used inside is_home is used_few noted held none_later not_ahead now = record {
      none = λ no has. absurd (at_home no);
      kept = record {
        unnoted = λ no since. absurd (at_home no);
        some = λ log' is'.
            let same : log ≡ log' = omega (arith, is', home_now) in
            subst (Logged lim traces stored logs t past' lives place) same (record {
              drawn = drawn;
              few = few_logs;
              place_is = place_is;
              owner_is = owner_is;
              life = life;
              used = used;
              header_is = stored_header ∙ is;
              used_few = used_few;
              noted = noted;
              held = λ loc. ap (is_in loc) (stored_holds log used used_few) ∙ held loc;
              none_later = none_later;
              not_ahead = not_ahead;
            });
        seen_now = now;
      };
    }
      where
        home_now : home lim stored t place ≡ log + 1
        home_now = stored_home t place few inside ∙ is_home

        at_home : home lim stored t place ≡ 0 → ⊥
        at_home none = omega (arith, none, home_now)

  -- THE NEXT ENTRY OF ITS OWN LOG

  module _ (log v life used : ℕ) (owner_is : logs.owner log ≡ t)
      (header_is : IsHeader lim traces words logs t past lives life log used) (left : used < log_entries)
      (few_logs : log < lim.logs) where
    abbrev pub entered : List ℕ
    entered = slice_set words (entry_word lim log used) v

    pub entered_home : (u place' : ℕ) → u < 16 → place' < 256 * lim.pages
        → home lim entered u place' ≡ home lim words u place'
    entered_home u place' few' inside =
        get_or-set_other words (entry_word lim log used) (home_word lim u place') v 0
        (λ e. omega (arith, e, few', inside))

    pub entered_header : (log' : ℕ) → header lim entered log' ≡ header lim words log'
    entered_header log' =
        get_or-set_other words (entry_word lim log used) (header_word lim log') v 0 (λ e. omega (arith, e, left))

    pub entered_now : entry lim entered log used ≡ v
    entered_now = get_or-set_same words (entry_word lim log used) v 0 (omega (arith, few_logs, left, roomy))

    entered_entry : (log' n : ℕ) → n < log_entries → (log ≡ log' → used ≡ n → ⊥)
        → entry lim entered log' n ≡ entry lim words log' n
    entered_entry log' n lt apart =
        get_or-set_other words (entry_word lim log used) (entry_word lim log' n) v 0
        (λ e. apart (omega (arith, e, lt, left)) (omega (arith, e, lt, left)))

    entered_holds : (log' life' used' : ℕ) → header lim words log' ≡ header_of life' used' 0 → used' ≤ log_entries
        → entries_hold lim entered log' used' ≡ entries_hold lim words log' used'
    entered_holds log' life' used' is used_few =
        same_holds lim words entered log' log' used' (λ n lt. entered_entry log' n (omega (arith, lt, used_few))
        (λ same at. behind same (omega (arith, at, lt))))
      where
        behind : log ≡ log' → used < used' → ⊥
        behind same lt =
            let e : header_of life used 0 ≡ header_of life' used' 0 =
            sym header_is ∙ (ap (header lim words) same ∙ is) in
            omega (arith, e, used_few, left, lt)

    pub entered_owns : OwnsAll lim traces words logs t past lives → OwnsAll lim traces entered logs t past lives
    entered_owns owns place inside =
        own_on lim traces words entered logs logs t past past lives lives place (later_same logs) (record {
          home_is = entered_home t place few inside;
          before = λ has. has;
          headers = λ log' drawn' few' place_is' owner_is'. entered_header log';
          holds = λ log' life' used' drawn' few' place_is' owner_is' is used_few.
              entered_holds log' life' used' is used_few;
          noted = λ since. refl;
          has = λ since loc. refl;
          seen = omega arith;
          seen_now = λ now. now;
        }) (owns place inside)

    pub entered_counted : Counted lim traces entered logs
    entered_counted = record {
      counter = get_or-set_other words (entry_word lim log used) 3 v 0 (λ e. omega (arith, e)) ∙ counted.counter;
      distinct = counted.distinct;
      each = counted.each;
    }

    pub entered_passes : Passes lim t words entered logs logs
    entered_passes = record {
      homes = λ u place' few' inside ne. entered_home u place' few' inside;
      headers = λ log' drawn' few' ne. entered_header log';
      entries = λ log' n drawn' few' ne lt.
          entered_entry log' n lt (λ same at. ne (sym owner_is ∙ ap logs.owner same));
      later = later_same logs;
      drawn = λ n lt. inl lt;
    }

  -- THE HOME WORD OF A LOG THAT IT DREW

  module _ (place life log : ℕ) (owns : OwnsOthers lim traces words logs t past lives place)
      (knows : Knows lim traces words logs t past lives place life)
      (drew : Drew lim traces words logs t past lives place log)
      (first : header lim words log ≡ header_of life 0 0) where
    abbrev pub homed : List ℕ
    homed = slice_set words (home_word lim t place) (log + 1)

    homed_other : (u place' : ℕ) → u < 16 → place' < 256 * lim.pages → home_word lim u place' ≡ home_word lim t place
        → (t ≡ u) × (place ≡ place')
    homed_other u place' few' inside e = (omega (arith, few, few', e), omega (arith, few, few', e))

    pub homed_header : (log' : ℕ) → header lim homed log' ≡ header lim words log'
    homed_header log' =
        let inside = knows.place_is in
        get_or-set_other words (home_word lim t place) (header_word lim log') (log + 1) 0
        (λ e. omega (arith, e, few, inside))

    homed_entry : (log' n : ℕ) → entry lim homed log' n ≡ entry lim words log' n
    homed_entry log' n =
        let inside = knows.place_is in
        get_or-set_other words (home_word lim t place) (entry_word lim log' n) (log + 1) 0
        (λ e. omega (arith, e, few, inside))

    pub homed_now : home lim homed t place ≡ log + 1
    homed_now = get_or-set_same words (home_word lim t place) (log + 1) 0 (omega (arith, few, knows.place_is, roomy))

    homed_own : IsSound past → Own lim traces homed logs t past lives place
    homed_own sound = record {
      none = λ no has. absurd (omega (arith, no, homed_now));
      kept = record {
        unnoted = λ no since. drew.unnoted since;
        some = λ log' is'.
            let same : log ≡ log' = omega (arith, is', homed_now) in
            subst (Logged lim traces homed logs t past lives place) same (record {
              drawn = drew.drawn;
              few = drew.few;
              place_is = drew.place_is;
              owner_is = drew.owner_is;
              life = life;
              used = 0;
              header_is = homed_header log ∙ first;
              used_few = omega arith;
              noted = drew.unnoted life;
              held = λ loc. sym (sound.unheld place life loc (drew.unnoted life));
              none_later = λ later lt. drew.unnoted later;
              not_ahead = omega (arith, knows.seen_is);
            });
        seen_now = omega (arith, knows.seen_is, knows.now);
      };
    }

    homed_others : OwnsOthers lim traces homed logs t past lives place
    homed_others place' inside ne =
        own_on lim traces words homed logs logs t past past lives lives place' (later_same logs) (record {
          home_is = get_or-set_other words (home_word lim t place) (home_word lim t place') (log + 1) 0
              (λ e. ne (homed_other t place' few inside e).1);
          before = λ has. has;
          headers = λ log' drawn' few' place_is' owner_is'. homed_header log';
          holds = λ log' life' used' drawn' few' place_is' owner_is' is used_few.
              same_holds lim words homed log' log' used' (λ n lt. homed_entry log' n);
          noted = λ life. refl;
          has = λ life loc. refl;
          seen = omega arith;
          seen_now = λ now. now;
        }) (owns place' inside ne)

    pub homed_owns : IsSound past → OwnsAll lim traces homed logs t past lives
    homed_owns sound = owns_with homed past place homed_others (homed_own sound)

    pub homed_counted : Counted lim traces homed logs
    homed_counted = record {
      counter = get_or-set_other words (home_word lim t place) 3 (log + 1) 0 (λ e. omega (arith, e)) ∙ counted.counter;
      distinct = counted.distinct;
      each = counted.each;
    }

    pub homed_passes : Passes lim t words homed logs logs
    homed_passes = record {
      homes = λ u place' few' inside ne.
          get_or-set_other words (home_word lim t place) (home_word lim u place') (log + 1) 0
          (λ e. ne (homed_other u place' few' inside e).0);
      headers = λ log' drawn few' ne. homed_header log';
      entries = λ log' n drawn few' ne lt. homed_entry log' n;
      later = later_same logs;
      drawn = λ n lt. inl lt;
    }
