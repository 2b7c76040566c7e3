-- What each row of a note makes of the logs.
use Rattle.std.proofs.Common.{◌≡◌, ℕ, ◌+◌, ◌^◌, ◌<◌, ◌≤◌, ◌==◌, ◌||◌, List, length, ap}
use Rattle.std.proofs.Common.{refl, sym, ◌∙◌, subst, inl, inr, ◌⊎◌, arith, slice_index, slice_set}
use Rattle.std.proofs.lemmas.Bool.{cases_eq, eq-eqb, ne_eqb}
use Rattle.std.proofs.lemmas.List.{set-get_or}
use Rattle.ds_map.specs.Bounds.{Bounds, IsInRange}
use Rattle.ds_map.specs.Words.{first_program_word}
use Rattle.ds_entry.specs.Entry.{entry_of}
use Rattle.ds_entry.specs.Header.{header_of}
use Rattle.ds_step.specs.declared.Event.{Event}
use Rattle.ds_step.specs.declared.Event.TheVariants as events
use Rattle.ds_step.specs.declared.Step.{Step}
use Rattle.ds_step.specs.Word.{words_after, answer_on}
use Rattle.ds_plain.specs.declared.ListAt.TheVariants.{LoadHome, DrawLog, StoreHeader, StoreHome, LoadHeader}
use Rattle.ds_plain.specs.declared.NoteAt.{NoteAt}
use Rattle.ds_plain.specs.declared.NoteAt.TheVariants.{LoadPage, LoadBlock, Seek, StoreLife, StoreEntry, CountEntry}
use Rattle.ds_plain.specs.Listing.{home_word, header_word, entry_word}
use Rattle.ds_plain.specs.Freeing.{LifeSeen, LiveIn, NotLive, NoBlockWord, life_seen}
use Rattle.ds_plain.specs.Noting.{held_seen, note_op, found_loaded, note_event, NoteNext, NotesOn, HasNoted}
use Rattle.ds_plain.specs.Noting.{behind_found_load, with_log, note_next}
use Rattle.ds_plain.specs.Thread.{Thread, moved_from_note}
use Rattle.ds_plain.specs.Explained.{trace_of}
use Rattle.ds_log_laws.specs.Told.{IsTold}
use Rattle.ds_log_laws.specs.Reading.{entries_hold}
use Rattle.ds_log_laws.proofs.Choices.{replaced_same, replaced_other}
use Rattle.ds_log_laws.proofs.Links.{entry, is_in, Logs, Counted, Past, IsSound, past_behind, IsQuiet, quiet_past}
use Rattle.ds_log_laws.proofs.Links.{Logged, IsLocation, IsHeader, OwnsAll, Uses, Notes}
use Rattle.ds_log_laws.proofs.Quiet.{held_quiet, list_quiet}
use Rattle.ds_log_laws.proofs.Others.{later_same, own_on}
use Rattle.ds_log_laws.proofs.Makes.{Makes, quiet_makes}
use Rattle.ds_log_laws.proofs.Entries.{holds_more}
use Rattle.ds_log_laws.proofs.Goes.{Goes, note_linked, page_goes, home_goes, with_log_goes, header_goes, used_is}
use Rattle.ds_log_laws.proofs.Stores.{stored_home, stored_header, stored_counted, stored_passes, stored_others}
use Rattle.ds_log_laws.proofs.Stores.{stored_own, entered_home, entered_header, entered_now, entered_owns}
use Rattle.ds_log_laws.proofs.Stores.{entered_counted, entered_passes, owns_with, homed_header, homed_now, homed_owns}
use Rattle.ds_log_laws.proofs.Stores.{homed_counted, homed_passes}
use Rattle.ds_log_laws.proofs.Drawing.{risen, one_more, drawn_counted, drawn_goes, drawn_passes}

-- a step makes some logs
pub record MakesSome (lim : Bounds) (traces : List (List Step)) (t : ℕ) (words words' : List ℕ) (logs : Logs)
    (past' : Past) (lives : ℕ → ℕ) (a : Thread) : Type 0 where
  pub logs' : Logs
  pub makes : Makes lim traces t words words' logs logs' past' lives a

-- what is found is the present life of its block
abbrev pub FindsNow : Event → (ℕ → ℕ) → Type 0
FindsNow (events.Found place start life) lives = life ≡ lives place
FindsNow event lives = Unit {0}

module _ (lim : Bounds) (traces : List (List Step)) (words : List ℕ) (logs : Logs) (t : ℕ) (past : Past)
    (lives : ℕ → ℕ) (few : t < 16) (a : Thread) (counted : Counted lim traces words logs)
    (roomy : first_program_word lim ≤ length words) (range : IsInRange lim) (sound : IsSound past) where
  abbrev MakesTo : List ℕ → Past → NoteNext → Type 0
  MakesTo words' past' next = MakesSome lim traces t words words' logs past' lives (moved_from_note lim a next)

  abbrev Links : NoteAt → Type 0
  Links at = Notes lim traces words logs t past lives at

  -- a step that finds and notes nothing
  by_quiet : (words' : List ℕ) (event : Event) (next : NoteNext) → IsQuiet event → MakesTo words' past next
      → MakesTo words' (past_behind event past) next
  by_quiet words' event next quiet makes =
      subst (λ told. MakesTo words' told next) (sym (quiet_past event past quiet)) makes

  -- a load
  loaded_makes : (past' : Past) (i : ℕ) (next : NoteNext) → Goes lim traces words logs t past' lives next
      → MakesTo (slice_set words i (slice_index words i)) past' next
  loaded_makes past' i next goes =
      subst (λ ws. MakesTo ws past' next) (sym (set-get_or words i 0)) (record {
        logs' = logs;
        makes = quiet_makes lim traces t words words logs past lives lives past' (moved_from_note lim a next)
            (record {
              counter = refl;
              homes = λ u place f inside. refl;
              headers = λ log f. refl;
              entries = λ log n f lt. refl;
            }) counted
            (note_linked lim traces words logs t past' lives a next goes);
      })

  -- THE BLOCK

  module _ (loc place start life : ℕ) (l : Links (LoadBlock loc place start)) (now : life ≡ lives place)
      (is_told : IsTold (events.Found place start life) (trace_of traces t)) where
    abbrev found_past : Past
    found_past = past_behind (events.Found place start life) past

    found_seen : (place' : ℕ) → past.seen place' ≤ lives place' → ((place ≡ place') ⊎ (place ≡ place' → ⊥))
        → (past.seen place' ≤ found_past.seen place') × (found_past.seen place' ≤ lives place')
    found_seen place' before (inl is) =
        subst (λ p. past.seen p ≤ lives p → (past.seen p ≤ found_past.seen p) × (found_past.seen p ≤ lives p)) is
        (λ b. let e = replaced_same past.seen place life in (omega (arith, b, e, now), omega (arith, e, now))) before
    found_seen place' before (inr ne) =
        let e = replaced_other past.seen place life place' ne in (omega (arith, e), omega (arith, e, before))

    found_owns : OwnsAll lim traces words logs t found_past lives
    found_owns place' inside =
        let own = l.0 place' inside in
        let seen = found_seen place' own.kept.seen_now (cases_eq place place') in
        own_on lim traces words words logs logs t past found_past lives lives place' (later_same logs) (record {
          home_is = refl;
          before = λ has. has;
          headers = λ log drawn few' place_is owner_is. refl;
          holds = λ log since used drawn few' place_is owner_is is used_few. refl;
          noted = λ since. refl;
          has = λ since x. refl;
          seen = seen.0;
          seen_now = λ before. seen.1;
        }) own

    found_goes : Goes lim traces words logs t found_past lives (behind_found_load loc place start (LiveIn life))
    found_goes = (
      (
        found_owns,
        record {
          place_is = l.1;
          found = (start, life, is_told);
          found_is = refl;
          seen_is = replaced_same past.seen place life;
          now = omega (arith, now);
        },
      ),
      l.2,
    )

  block_makes : (loc place start : ℕ) (seen : LifeSeen) → Links (LoadBlock loc place start)
      → FindsNow (found_loaded place start seen) lives → IsTold (found_loaded place start seen) (trace_of traces t)
      → (i : ℕ)
      → MakesTo (slice_set words i (slice_index words i)) (past_behind (found_loaded place start seen) past)
      (behind_found_load loc place start seen)
  block_makes loc place start (LiveIn life) l now is_told i =
      loaded_makes (past_behind (events.Found place start life) past) i
      (behind_found_load loc place start (LiveIn life)) (found_goes loc place start life l now is_told)
  block_makes loc place start NotLive l now is_told i =
      loaded_makes past i (behind_found_load loc place start NotLive) l.0
  block_makes loc place start NoBlockWord l now is_told i =
      loaded_makes past i (behind_found_load loc place start NoBlockWord) l

  -- THE HEADER OF A LOG THAT IT DREW

  first_makes : (loc place life log : ℕ) → Links (Seek loc (StoreHeader place life log))
      → MakesTo (slice_set words (header_word lim log) (header_of life 0 0)) past
      (NotesOn (Seek loc (StoreHome place life log)))
  first_makes loc place life log l =
      let v = header_of life 0 0 in
      let drew = l.0.2 in
      let knows = l.0.1 in
      let words' : List ℕ = slice_set words (header_word lim log) v in
      record {
        logs' = logs;
        makes = record {
          counted = stored_counted lim traces words logs t past lives few counted roomy log v place drew.drawn drew.few
              drew.place_is drew.owner_is;
          linked = note_linked lim traces words' logs t past lives a (NotesOn (Seek loc (StoreHome place life log))) (
            (
              stored_others lim traces words logs t past lives few counted roomy log v place drew.drawn drew.few
                  drew.place_is drew.owner_is past
                  (record { noted = λ p g ne. refl; has = λ p g x ne. refl; seen = λ p. refl }) l.0.0,
              record {
                place_is = knows.place_is;
                found = knows.found;
                found_is = knows.found_is;
                seen_is = knows.seen_is;
                now = knows.now;
              },
              record {
                drawn = drew.drawn;
                few = drew.few;
                place_is = drew.place_is;
                owner_is = drew.owner_is;
                no_home = stored_home lim traces words logs t past lives few counted roomy log v place drew.drawn
                    drew.few drew.place_is drew.owner_is t place few knows.place_is ∙ drew.no_home;
                unnoted = drew.unnoted;
              },
              stored_header lim traces words logs t past lives few counted roomy log v place drew.drawn drew.few
                  drew.place_is drew.owner_is,
            ),
            l.1,
          );
          passes = stored_passes lim traces words logs t past lives few counted roomy log v place drew.drawn drew.few
              drew.place_is drew.owner_is;
        };
      }

  -- THE HOME WORD

  home_makes : (loc place life log : ℕ) → Links (Seek loc (StoreHome place life log))
      → MakesTo (slice_set words (home_word lim t place) (log + 1)) past
      (with_log loc place life log (header_of life 0 0))
  home_makes loc place life log l =
      let knows = l.0.1 in
      let words' : List ℕ = slice_set words (home_word lim t place) (log + 1) in
      record {
        logs' = logs;
        makes = record {
          counted = homed_counted lim traces words logs t past lives few counted roomy place life log l.0.0 l.0.1 l.0.2
              l.0.3;
          linked = note_linked lim traces words' logs t past lives a (with_log loc place life log (header_of life 0 0))
              (with_log_goes lim traces words' logs t past lives loc place life log (header_of life 0 0)
              (homed_owns lim traces words logs t past lives few counted roomy place life log l.0.0 l.0.1 l.0.2 l.0.3
              sound)
              (record {
                place_is = knows.place_is;
                found = knows.found;
                found_is = knows.found_is;
                seen_is = knows.seen_is;
                now = knows.now;
              })
              (homed_now lim traces words logs t past lives few counted roomy place life log l.0.0 l.0.1 l.0.2 l.0.3)
              (λ same. let none = used_is life 0 (omega arith) in (
                l.0.2.unnoted life ∙ sym none,
                omega (arith, none),
                homed_header lim traces words logs t past lives few counted roomy place life log l.0.0 l.0.1 l.0.2
                    l.0.3 log ∙ (l.0.3 ∙ ap (λ used. header_of life used 0) (sym none)),
              ))
              (λ ne. l.0.2.unnoted life) l.1);
          passes = homed_passes lim traces words logs t past lives few counted roomy place life log l.0.0 l.0.1 l.0.2
              l.0.3;
        };
      }

  -- THE HEADER OF ITS LOG

  module _ (place life log used : ℕ) (uses : Uses lim traces words logs t past lives place life log used) where
    abbrev own_log : Logged lim traces words logs t past lives place log
    own_log = (uses.owns place uses.knows.place_is).kept.some log uses.is_home

    none_later : (later : ℕ) → life < later → past.noted place later ≡ 0
    none_later later lt =
        own_log.none_later later (omega (arith, lt, own_log.not_ahead, uses.knows.seen_is))

    -- it is begun anew
    abbrev begun : List ℕ
    begun = slice_set words (header_word lim log) (header_of life 0 0)

    begun_makes : (loc : ℕ) → IsLocation lim traces words logs t past lives loc → past.noted place life ≡ 0
        → MakesTo begun past (NotesOn (StoreEntry loc place life log 0))
    begun_makes loc located unnoted =
        let v = header_of life 0 0 in
        let knows = uses.knows in
        record {
          logs' = logs;
          makes = record {
            counted = stored_counted lim traces words logs t past lives few counted roomy log v place own_log.drawn
                own_log.few own_log.place_is own_log.owner_is;
            linked = note_linked lim traces begun logs t past lives a (NotesOn (StoreEntry loc place life log 0)) (
              record {
                owns = owns_with lim traces words logs t past lives few counted roomy begun past place
                    (stored_others lim traces words logs t past lives few counted roomy log v place own_log.drawn
                    own_log.few own_log.place_is own_log.owner_is past
                    (record { noted = λ p g ne. refl; has = λ p g x ne. refl; seen = λ p. refl })
                    (λ place' inside ne. uses.owns place' inside))
                    (stored_own lim traces words logs t past lives few counted roomy log v place own_log.drawn
                    own_log.few own_log.place_is own_log.owner_is past life 0 knows.place_is uses.is_home refl
                    (omega arith) unnoted (λ x. sym (sound.unheld place life x unnoted)) none_later
                    (omega (arith, knows.seen_is)) (uses.owns place knows.place_is).kept.seen_now);
                knows = record {
                  place_is = knows.place_is;
                  found = knows.found;
                  found_is = knows.found_is;
                  seen_is = knows.seen_is;
                  now = knows.now;
                };
                is_home = stored_home lim traces words logs t past lives few counted roomy log v place own_log.drawn
                    own_log.few own_log.place_is own_log.owner_is t place few knows.place_is ∙ uses.is_home;
                noted = unnoted;
                left = omega arith;
              },
              stored_header lim traces words logs t past lives few counted roomy log v place own_log.drawn own_log.few
                  own_log.place_is own_log.owner_is,
              located,
            );
            passes = stored_passes lim traces words logs t past lives few counted roomy log v place own_log.drawn
                own_log.few own_log.place_is own_log.owner_is;
          };
        }

    -- one entry more is used
    abbrev noted_past : (loc : ℕ) → Past
    noted_past loc = past_behind (events.Noted place life loc) past

    noted_other : (loc place' life' : ℕ) → (place ≡ place' → ⊥)
        → (noted_past loc).noted place' life' ≡ past.noted place' life'
    noted_other loc place' life' ne = rw (ne_eqb place place' ne) refl

    has_other : (loc place' life' x : ℕ) → (place ≡ place' → ⊥)
        → (noted_past loc).has place' life' x ≡ past.has place' life' x
    has_other loc place' life' x ne = rw (ne_eqb place place' ne) refl

    has_here : (loc x : ℕ) → (noted_past loc).has place life x ≡ ((loc == x) || past.has place life x)
    has_here loc x = rw (eq-eqb place place refl) (rw (eq-eqb life life refl) refl)

    noted_here : (loc : ℕ) → (noted_past loc).noted place life ≡ used + 1
    noted_here loc = rw (eq-eqb place place refl) (rw (eq-eqb life life refl) (omega (arith, uses.noted)))

    noted_later : (loc later : ℕ) → life < later → (noted_past loc).noted place later ≡ 0
    noted_later loc later lt =
        rw (eq-eqb place place refl) (rw (ne_eqb life later (λ e. omega (arith, e, lt))) (none_later later lt))

    -- what it holds is of this life
    module _ (header_is : IsHeader lim traces words logs t past lives life log used) where
      same_header : header_of own_log.life own_log.used 0 ≡ header_of life used 0
      same_header = sym own_log.header_is ∙ header_is

      own_life : own_log.life ≡ life
      own_life = omega (arith, same_header, own_log.used_few, uses.left)

      own_used : own_log.used ≡ used
      own_used = omega (arith, same_header, own_log.used_few, uses.left)

      own_held : (x : ℕ) → is_in x (entries_hold lim words log used) ≡ past.has place life x
      own_held x =
          subst (λ n. is_in x (entries_hold lim words log n) ≡ past.has place life x) own_used
          (subst (λ since. is_in x (entries_hold lim words log own_log.used) ≡ past.has place since x) own_life
          (own_log.held x))

      counted_held : (loc : ℕ) → IsLocation lim traces words logs t past lives loc
          → entry lim words log used ≡ entry_of loc → (x : ℕ)
          → is_in x (entries_hold lim words log (used + 1)) ≡ (noted_past loc).has place life x
      counted_held loc located is x =
          holds_more lim words log used loc x (past.has place life x) is (omega (arith, located, range.pages))
          (own_held x) ∙ sym (has_here loc x)

      counted_makes : (loc : ℕ) → IsLocation lim traces words logs t past lives loc
          → entry lim words log used ≡ entry_of loc
          → MakesTo (slice_set words (header_word lim log) (header_of life (used + 1) 0)) (noted_past loc) HasNoted
      counted_makes loc located is =
          let v = header_of life (used + 1) 0 in
          let knows = uses.knows in
          let words' : List ℕ = slice_set words (header_word lim log) v in
          record {
            logs' = logs;
            makes = record {
              counted = stored_counted lim traces words logs t past lives few counted roomy log v place own_log.drawn
                  own_log.few own_log.place_is own_log.owner_is;
              linked = note_linked lim traces words' logs t (noted_past loc) lives a HasNoted
                  (owns_with lim traces words logs t past lives few counted roomy words' (noted_past loc) place
                  (stored_others lim traces words logs t past lives few counted roomy log v place own_log.drawn
                  own_log.few own_log.place_is own_log.owner_is (noted_past loc)
                  (record { noted = noted_other loc; has = has_other loc; seen = λ p. refl })
                  (λ place' inside ne. uses.owns place' inside))
                  (stored_own lim traces words logs t past lives few counted roomy log v place own_log.drawn
                  own_log.few own_log.place_is own_log.owner_is (noted_past loc) life (used + 1) knows.place_is
                  uses.is_home refl (omega (arith, uses.left)) (noted_here loc) (counted_held loc located is)
                  (noted_later loc) (omega (arith, knows.seen_is))
                  (uses.owns place knows.place_is).kept.seen_now));
              passes = stored_passes lim traces words logs t past lives few counted roomy log v place own_log.drawn
                  own_log.few own_log.place_is own_log.owner_is;
            };
          }

      -- an entry is stored
      entry_makes : (loc : ℕ) → IsLocation lim traces words logs t past lives loc
          → MakesTo (slice_set words (entry_word lim log used) (entry_of loc)) past
          (NotesOn (CountEntry loc place life log used))
      entry_makes loc located =
          let v = entry_of loc in
          let next = NotesOn (CountEntry loc place life log used) in
          let knows = uses.knows in
          let words' : List ℕ = slice_set words (entry_word lim log used) v in
          record {
            logs' = logs;
            makes = record {
              counted = entered_counted lim traces words logs t past lives few counted roomy log v life used
                  own_log.owner_is header_is uses.left own_log.few;
              linked = note_linked lim traces words' logs t past lives a next (
                record {
                  owns = entered_owns lim traces words logs t past lives few counted roomy log v life used
                      own_log.owner_is header_is uses.left own_log.few uses.owns;
                  knows = record {
                    place_is = knows.place_is;
                    found = knows.found;
                    found_is = knows.found_is;
                    seen_is = knows.seen_is;
                    now = knows.now;
                  };
                  is_home = entered_home lim traces words logs t past lives few counted roomy log v life used
                      own_log.owner_is header_is uses.left own_log.few t place few knows.place_is ∙ uses.is_home;
                  noted = uses.noted;
                  left = uses.left;
                },
                entered_header lim traces words logs t past lives few counted roomy log v life used own_log.owner_is
                    header_is uses.left own_log.few log ∙ header_is,
                located,
                entered_now lim traces words logs t past lives few counted roomy log v life used own_log.owner_is
                    header_is uses.left own_log.few,
              );
              passes = entered_passes lim traces words logs t past lives few counted roomy log v life used
                  own_log.owner_is header_is uses.left own_log.few;
            };
          }

  -- EACH ROW

  pub note_makes : (at : NoteAt) (old : ℕ) → logs.count + 1 < 2 ^ 64 → old ≡ answer_on words (note_op lim t at)
      → IsTold (note_event lim at old) (trace_of traces t) → FindsNow (note_event lim at old) lives → Links at
      → MakesTo (words_after words (note_op lim t at)) (past_behind (note_event lim at old) past) (note_next lim at old)
  note_makes (LoadPage loc value) old bound is is_told now l =
      by_quiet (words_after words (note_op lim t (LoadPage loc value))) (note_event lim (LoadPage loc value) old)
      (note_next lim (LoadPage loc value) old) (held_quiet (held_seen value old))
      (loaded_makes past (note_op lim t (LoadPage loc value)).word (note_next lim (LoadPage loc value) old)
      (page_goes lim traces words logs t past lives loc value old l))
  note_makes (LoadBlock loc place start) old bound is is_told now l =
      block_makes loc place start (life_seen old) l now is_told (note_op lim t (LoadBlock loc place start)).word
  note_makes (Seek loc (LoadHome place life)) old bound is is_told now l =
      loaded_makes past (home_word lim t place) (note_next lim (Seek loc (LoadHome place life)) old)
      (home_goes lim traces words logs t past lives loc place life old is l.0 l.1)
  note_makes (Seek loc (DrawLog place life)) old bound is is_told now l =
      by_quiet (words_after words (note_op lim t (Seek loc (DrawLog place life))))
      (note_event lim (Seek loc (DrawLog place life)) old) (note_next lim (Seek loc (DrawLog place life)) old)
      (list_quiet lim (DrawLog place life) old) (record {
        logs' = one_more lim traces words logs t past lives few counted roomy place life l.0.0 l.0.1 l.0.2 bound;
        makes = record {
          counted = drawn_counted lim traces words logs t past lives few counted roomy place life l.0.0 l.0.1 l.0.2
              bound;
          linked = note_linked lim traces
              (risen lim traces words logs t past lives few counted roomy place life l.0.0 l.0.1 l.0.2 bound)
              (one_more lim traces words logs t past lives few counted roomy place life l.0.0 l.0.1 l.0.2 bound) t past
              lives a (note_next lim (Seek loc (DrawLog place life)) old)
              (drawn_goes lim traces words logs t past lives few counted roomy place life l.0.0 l.0.1 l.0.2 bound loc
              old l.1 (is ∙ counted.counter));
          passes = drawn_passes lim traces words logs t past lives few counted roomy place life l.0.0 l.0.1 l.0.2 bound;
        };
      })
  note_makes (Seek loc (StoreHeader place life log)) old bound is is_told now l = first_makes loc place life log l
  note_makes (Seek loc (StoreHome place life log)) old bound is is_told now l = home_makes loc place life log l
  note_makes (Seek loc (LoadHeader place life log)) old bound is is_told now l =
      by_quiet (words_after words (note_op lim t (Seek loc (LoadHeader place life log))))
      (note_event lim (Seek loc (LoadHeader place life log)) old)
      (note_next lim (Seek loc (LoadHeader place life log)) old) (list_quiet lim (LoadHeader place life log) old)
      (loaded_makes past (header_word lim log) (note_next lim (Seek loc (LoadHeader place life log)) old)
      (header_goes lim traces words logs t past lives loc place life log old is l.0 l.1))
  note_makes (StoreLife loc place life log) old bound is is_told now l =
      begun_makes place life log 0 l.0 loc l.1 l.0.noted
  note_makes (StoreEntry loc place life log used) old bound is is_told now l =
      entry_makes place life log used l.0 l.1 loc l.2
  note_makes (CountEntry loc place life log used) old bound is is_told now l =
      counted_makes place life log used l.0 l.1 loc l.2 l.3
