-- Where a note goes on, by what it sees.
use Rattle.std.proofs.Common.{◌≡◌, ℕ, ◌+◌, ◌-◌, ◌<◌, ◌≤◌, ◌==◌, true, false, if◌then◌else◌}
use Rattle.std.proofs.Common.{nat_le, nat_lt, List, sym, ap, ◌∙◌, subst, arith, eqb-true, ltb-true}
use Rattle.std.proofs.lemmas.Bool.{and_parts, eq-eqb}
use Rattle.std.proofs.lemmas.Bool.Decides.{nat_tests}
use Rattle.ds_map.specs.Bounds.{Bounds}
use Rattle.ds_map.specs.Regions.{heap, lies_in, program_words}
use Rattle.ds_entry.specs.Header.{log_entries, header_of, life_in, used_in}
use Rattle.ds_step.specs.declared.Step.{Step}
use Rattle.ds_plain.specs.declared.ListAt.TheVariants.{LoadHome, LoadHeader}
use Rattle.ds_plain.specs.declared.NoteAt.TheVariants.{LoadPage, StoreLife, StoreEntry}
use Rattle.ds_plain.specs.declared.Position.TheVariants.{Note}
use Rattle.ds_plain.specs.Behaviour.{told}
use Rattle.ds_plain.specs.Listing.{NoHome, HomeOf, NoHomeWord, home_seen, is_header, HasRoom, HasNoRoom, OfOther}
use Rattle.ds_plain.specs.Listing.{NoHeader, header_seen, behind_home_load, behind_header_load}
use Rattle.ds_plain.specs.Noting.{HeldSeen, HeldIn, HeldByNone, NoPageWord, held_seen, NoteNext, NotesOn, HasNoted}
use Rattle.ds_plain.specs.Noting.{HasSkipped, FailsNote, behind_held_load, with_log, behind_list, note_next}
use Rattle.ds_plain.specs.Thread.{Thread, moved_from_note}
use Rattle.ds_log_laws.proofs.Choices.{of_if, of_test}
use Rattle.ds_log_laws.proofs.Places.{IsHeldInside, held_inside}
use Rattle.ds_log_laws.proofs.Links.{home, header, Logs, Past, Logged, KeptAll, OwnsAll, Knows, IsHome, IsHeader, Lists}
use Rattle.ds_log_laws.proofs.Links.{IsLocation, Notes, EndsFull, IsLinked, kept_owns, standing_linked, going_linked}

-- what a header tells
pub life_is : (life used : ℕ) → used ≤ log_entries → life_in (header_of life used 0) ≡ life
life_is life used few = omega (arith, few)

pub used_is : (life used : ℕ) → used ≤ log_entries → used_in (header_of life used 0) ≡ used
used_is life used few = omega (arith, few)

module _ (lim : Bounds) (traces : List (List Step)) (words : List ℕ) (logs : Logs) (t : ℕ) (past : Past)
    (lives : ℕ → ℕ) where
  abbrev pub Goes : NoteNext → Type 0
  Goes (NotesOn at) = Notes lim traces words logs t past lives at
  Goes HasNoted = OwnsAll lim traces words logs t past lives
  Goes HasSkipped = OwnsAll lim traces words logs t past lives
  Goes (FailsNote what) = EndsFull lim traces words logs t past lives what × KeptAll lim traces words logs t past lives

  pub note_linked : (a : Thread) (next : NoteNext) → Goes next
      → IsLinked lim traces words logs t past lives (moved_from_note lim a next)
  note_linked a (NotesOn at) here =
      standing_linked lim traces words logs t past lives a.cursors a.rest (a.units + 1) a.began (Note at) here
  note_linked a HasNoted owns =
      going_linked lim traces words logs t past lives a.cursors (a.units + 1) (told a.rest 0) owns
  note_linked a HasSkipped owns =
      going_linked lim traces words logs t past lives a.cursors (a.units + 1) (told a.rest 0) owns
  note_linked a (FailsNote what) full = full

  -- THE PAGE

  held_goes : (loc value : ℕ) (seen : HeldSeen) → Notes lim traces words logs t past lives (LoadPage loc value)
      → IsHeldInside lim seen → Goes (behind_held_load loc value seen)
  held_goes loc value (HeldIn place start) l inside = (
    l.0,
    inside,
    ltb-true loc (program_words lim) (and_parts (nat_lt loc (program_words lim)) (lies_in (heap lim) value) l.1).0,
  )
  held_goes loc value HeldByNone l inside = l.0
  held_goes loc value NoPageWord l inside = l

  pub page_goes : (loc value old : ℕ) → Notes lim traces words logs t past lives (LoadPage loc value)
      → Goes (note_next lim (LoadPage loc value) old)
  page_goes loc value old l =
      held_goes loc value (held_seen value old) l
      (held_inside lim value old (and_parts (nat_lt loc (program_words lim)) (lies_in (heap lim) value) l.1).1)

  -- THE LOG

  pub home_goes : (loc place life old : ℕ) → old ≡ home lim words t place
      → Lists lim traces words logs t past lives (LoadHome place life)
      → IsLocation lim traces words logs t past lives loc
      → Goes (behind_list loc place life (behind_home_load place life (home_seen lim old)))
  home_goes loc place life old is l located =
      of_test (λ seen. Goes (behind_list loc place life (behind_home_load place life seen))) (old == 0) NoHome
      (if nat_le old lim.logs then HomeOf (old - 1) else NoHomeWord)
      (λ e. ((l.0, l.1, sym is ∙ eqb-true old 0 e), located))
      (λ e. let one : old ≡ (old - 1) + 1 = grind (arith, nat_tests, e) in
      of_if (λ seen. Goes (behind_list loc place life (behind_home_load place life seen))) (nat_le old lim.logs)
      (HomeOf (old - 1)) NoHomeWord ((l.0, l.1, sym is ∙ one), located) (l, located))

  pub with_log_goes : (loc place life log word : ℕ) → OwnsAll lim traces words logs t past lives
      → Knows lim traces words logs t past lives place life → IsHome lim traces words logs t past lives place log
      → (life_in word ≡ life → (past.noted place life ≡ used_in word) × (used_in word < log_entries)
      × IsHeader lim traces words logs t past lives life log (used_in word))
      → ((life_in word ≡ life → ⊥) → past.noted place life ≡ 0) → IsLocation lim traces words logs t past lives loc
      → Goes (with_log loc place life log word)
  with_log_goes loc place life log word owns knows is_home same other located =
      of_test Goes (life_in word == life) (NotesOn (StoreEntry loc place life log (used_in word)))
      (NotesOn (StoreLife loc place life log))
      (λ e. let known = same (eqb-true (life_in word) life e) in (
        record { owns = owns; knows = knows; is_home = is_home; noted = known.0; left = known.1 },
        known.2,
        located,
      ))
      (λ e. (
        record {
          owns = owns;
          knows = knows;
          is_home = is_home;
          noted = other (λ is. let yes' : (life_in word == life) ≡ true = eq-eqb (life_in word) life is in
              absurd (cc (e, yes')));
          left = omega arith;
        },
        located,
      ))

  module _ (loc place life log old : ℕ) (is : old ≡ header lim words log)
      (l : Lists lim traces words logs t past lives (LoadHeader place life log))
      (located : IsLocation lim traces words logs t past lives loc) where
    abbrev own_log : Logged lim traces words logs t past lives place log
    own_log = (l.0 place l.1.place_is).kept.some log l.2

    old_is : old ≡ header_of own_log.life own_log.used 0
    old_is = is ∙ own_log.header_is

    old_life : life_in old ≡ own_log.life
    old_life = ap life_in old_is ∙ life_is own_log.life own_log.used own_log.used_few

    old_used : used_in old ≡ own_log.used
    old_used = ap used_in old_is ∙ used_is own_log.life own_log.used own_log.used_few

    noted_here : life_in old ≡ life → past.noted place life ≡ used_in old
    noted_here same =
        subst (λ since. past.noted place since ≡ used_in old) (sym old_life ∙ same) (own_log.noted ∙ sym old_used)

    header_here : life_in old ≡ life → IsHeader lim traces words logs t past lives life log (used_in old)
    header_here same =
        own_log.header_is ∙ (ap (λ since. header_of since own_log.used 0) (sym old_life ∙ same)
        ∙ ap (λ used. header_of life used 0) (sym old_used))

    noted_none : (life_in old ≡ life → ⊥) → past.noted place life ≡ 0
    noted_none ne = own_log.none_later life (less (λ same. ne (old_life ∙ same)))
      where
        less : (own_log.life ≡ life → ⊥) → own_log.life < life
        less apart =
            let ahead = own_log.not_ahead in let now = l.1.seen_is in grind (arith, ahead, now, apart)

    pub header_goes : Goes (behind_list loc place life (behind_header_load place life log old (header_seen life old)))
    header_goes =
        of_if (λ seen. Goes (behind_list loc place life (behind_header_load place life log old seen))) (is_header old)
        (if life_in old == life then (if used_in old == log_entries then HasNoRoom else HasRoom) else OfOther) NoHeader
        (of_test (λ seen. Goes (behind_list loc place life (behind_header_load place life log old seen)))
        (life_in old == life) (if used_in old == log_entries then HasNoRoom else HasRoom) OfOther
        (λ here. let same : life_in old ≡ life = eqb-true (life_in old) life here in
        of_test (λ seen. Goes (behind_list loc place life (behind_header_load place life log old seen)))
        (used_in old == log_entries) HasNoRoom HasRoom
        (λ e. (
          record {
            place = place;
            life = life;
            found_is = l.1.found_is;
            noted = noted_here same ∙ eqb-true (used_in old) log_entries e;
          },
          kept_owns lim traces words logs t past lives l.0,
        ))
        (λ e. with_log_goes loc place life log old l.0 l.1 l.2
        (λ here'. (noted_here here', less e, header_here here')) noted_none located))
        (λ here. with_log_goes loc place life log old l.0 l.1 l.2
        (λ same. let yes' : (life_in old == life) ≡ true = eq-eqb (life_in old) life same in absurd (cc (here, yes')))
        noted_none located))
        (l, located)
      where
        less : (used_in old == log_entries) ≡ false → used_in old < log_entries
        less e = let few = own_log.used_few in let used = old_used in grind (arith, nat_tests, e, few, used)
