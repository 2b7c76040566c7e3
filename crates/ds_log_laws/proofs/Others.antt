-- What a step of one thread leaves of the logs, and that so the links of the others hold behind it.
use Rattle.std.proofs.Common.{◌≡◌, ℕ, zero, suc, ◌*◌, ◌<◌, ◌≤◌, List, ◌++◌, sym, ap, ◌∙◌, inl, inr, ◌⊎◌, refl, arith}
use Rattle.ds_map.specs.Bounds.{Bounds}
use Rattle.ds_entry.specs.Entry.{locations_of}
use Rattle.ds_entry.specs.Header.{log_entries, header_of}
use Rattle.ds_step.specs.declared.FullWhat.{FullWhat}
use Rattle.ds_step.specs.declared.FullWhat.TheVariants as tables
use Rattle.ds_step.specs.declared.Step.{Step}
use Rattle.ds_plain.specs.declared.Stop.{Stop}
use Rattle.ds_plain.specs.declared.Stop.TheVariants.{Idle, Running, Returned, Trap, Full, Fuel}
use Rattle.ds_plain.specs.declared.ListAt.{ListAt}
use Rattle.ds_plain.specs.declared.ListAt.TheVariants.{LoadHome, DrawLog, StoreHeader, StoreHome, LoadHeader}
use Rattle.ds_plain.specs.declared.NoteAt.{NoteAt}
use Rattle.ds_plain.specs.declared.NoteAt.TheVariants as notes
use Rattle.ds_plain.specs.declared.Position.{Position}
use Rattle.ds_plain.specs.declared.Position.TheVariants.{Start, Access, Malloc, Note, Free, Spawn, Join}
use Rattle.ds_plain.specs.declared.Position.TheVariants.{DrawPrint, StoreEnded, Over, NoRow}
use Rattle.ds_log_laws.specs.Reading.{entries_hold}
use Rattle.ds_log_laws.proofs.Links.{home, header, entry, is_in, Logs, HasDrawn, Past, Logged, Kept, KeptAll, Own}
use Rattle.ds_log_laws.proofs.Links.{OwnsAll, OwnsOthers, Knows, Drew, IsHeader, Uses, Lists, Notes, EndsFull, Ends}
use Rattle.ds_log_laws.proofs.Links.{Stands}

-- the logs that were drawn stay as they are
pub record Later (logs logs' : Logs) : Type 0 where
  pub least : logs.count ≤ logs'.count
  pub places : (n : ℕ) → n < logs.count → logs'.place n ≡ logs.place n
  pub owners : (n : ℕ) → n < logs.count → logs'.owner n ≡ logs.owner n

pub later_same : (logs : Logs) → Later logs logs
later_same logs = record { least = omega arith; places = λ n lt. refl; owners = λ n lt. refl }

-- logs hold the same where their entries are the same
pub same_holds : (lim : Bounds) (words words' : List ℕ) (log log' used : ℕ)
    → ((n : ℕ) → n < used → entry lim words' log' n ≡ entry lim words log n)
    → entries_hold lim words' log' used ≡ entries_hold lim words log used
same_holds lim words words' log log' zero same = refl
same_holds lim words words' log log' (suc n) same =
    ap (λ locs. locs ++ locations_of (entry lim words' log' n))
    (same_holds lim words words' log log' n (λ m lt. same m (omega (arith, lt))))
    ∙ ap (λ word. entries_hold lim words log n ++ locations_of word) (same n (omega arith))

-- what a step of thread u leaves to the others: their home words, their logs, and which logs were drawn
pub record Passes (lim : Bounds) (u : ℕ) (words words' : List ℕ) (logs logs' : Logs) : Type 0 where
  pub homes : (t place : ℕ) → t < 16 → place < 256 * lim.pages → (u ≡ t → ⊥)
      → home lim words' t place ≡ home lim words t place
  pub headers : (log : ℕ) → log < logs.count → log < lim.logs → (u ≡ logs.owner log → ⊥)
      → header lim words' log ≡ header lim words log
  pub entries : (log n : ℕ) → log < logs.count → log < lim.logs → (u ≡ logs.owner log → ⊥) → n < log_entries
      → entry lim words' log n ≡ entry lim words log n
  pub later : Later logs logs'
  pub drawn : (n : ℕ) → n < logs'.count → (n < logs.count) ⊎ (logs'.owner n ≡ u)

-- a log of another thread was drawn before
pub drawn_before : (lim : Bounds) (u t place : ℕ) (words words' : List ℕ) (logs logs' : Logs)
    → Passes lim u words words' logs logs' → (u ≡ t → ⊥) → HasDrawn logs' t place → HasDrawn logs t place
drawn_before lim u t place words words' logs logs' passes ne has = by (passes.drawn has.number has.drawn)
  where
    by : ((has.number < logs.count) ⊎ (logs'.owner has.number ≡ u)) → HasDrawn logs t place
    by (inl before) = record {
      number = has.number;
      drawn = before;
      place_is = sym (passes.later.places has.number before) ∙ has.place_is;
      owner_is = sym (passes.later.owners has.number before) ∙ has.owner_is;
    }
    by (inr mine) = absurd (ne (sym mine ∙ has.owner_is))

module _ (lim : Bounds) (traces : List (List Step)) (words words' : List ℕ) (logs logs' : Logs) (t : ℕ)
    (past past' : Past) (lives lives' : ℕ → ℕ) where
  -- what is the same for a place behind a step: the home word, the logs drawn for it, their headers and what they hold,
  -- and what was noted
  pub record SamePlace (place : ℕ) : Type 0 where
    pub home_is : home lim words' t place ≡ home lim words t place
    pub before : HasDrawn logs' t place → HasDrawn logs t place
    pub headers : (log : ℕ) → log < logs.count → log < lim.logs → logs.place log ≡ place → logs.owner log ≡ t
        → header lim words' log ≡ header lim words log
    pub holds : (log life used : ℕ) → log < logs.count → log < lim.logs → logs.place log ≡ place → logs.owner log ≡ t
        → header lim words log ≡ header_of life used 0 → used ≤ log_entries
        → entries_hold lim words' log used ≡ entries_hold lim words log used
    pub noted : (life : ℕ) → past'.noted place life ≡ past.noted place life
    pub has : (life loc : ℕ) → past'.has place life loc ≡ past.has place life loc
    pub seen : past.seen place ≤ past'.seen place
    pub seen_now : past.seen place ≤ lives place → past'.seen place ≤ lives' place

  logged_on : (place log : ℕ) → Later logs logs' → SamePlace place → Logged lim traces words logs t past lives place log
      → Logged lim traces words' logs' t past' lives' place log
  logged_on place log later same logged = record {
    drawn = omega (arith, logged.drawn, later.least);
    few = logged.few;
    place_is = later.places log logged.drawn ∙ logged.place_is;
    owner_is = later.owners log logged.drawn ∙ logged.owner_is;
    life = logged.life;
    used = logged.used;
    header_is = same.headers log logged.drawn logged.few logged.place_is logged.owner_is ∙ logged.header_is;
    used_few = logged.used_few;
    noted = same.noted logged.life ∙ logged.noted;
    held = λ loc.
        ap (is_in loc) (same.holds log logged.life logged.used logged.drawn logged.few logged.place_is logged.owner_is
        logged.header_is logged.used_few) ∙ (logged.held loc ∙ sym (same.has logged.life loc));
    none_later = λ life lt. same.noted life ∙ logged.none_later life lt;
    not_ahead = omega (arith, logged.not_ahead, same.seen);
  }

  pub kept_on : (place : ℕ) → Later logs logs' → SamePlace place → Kept lim traces words logs t past lives place
      → Kept lim traces words' logs' t past' lives' place
  kept_on place later same kept = record {
    unnoted = λ no life. same.noted life ∙ kept.unnoted (sym same.home_is ∙ no) life;
    some = λ log is. logged_on place log later same (kept.some log (sym same.home_is ∙ is));
    seen_now = same.seen_now kept.seen_now;
  }

  pub own_on : (place : ℕ) → Later logs logs' → SamePlace place → Own lim traces words logs t past lives place
      → Own lim traces words' logs' t past' lives' place
  own_on place later same own = record {
    none = λ no has. own.none (sym same.home_is ∙ no) (same.before has);
    kept = kept_on place later same own.kept;
  }

-- why a thread ended stays so
module _ (lim : Bounds) (traces : List (List Step)) (words words' : List ℕ) (t : ℕ) (past : Past)
    (lives lives' : ℕ → ℕ) where
  full_on : (logs logs' : Logs) (what : FullWhat) → logs.count ≤ logs'.count
      → EndsFull lim traces words logs t past lives what → EndsFull lim traces words' logs' t past lives' what
  full_on logs logs' tables.Logs least l = omega (arith, l, least)
  full_on logs logs' tables.Hash least l =
      record { place = l.place; life = l.life; found_is = l.found_is; noted = l.noted }

  ends_on : (logs logs' : Logs) (stop : Stop) → logs.count ≤ logs'.count → Ends lim traces words logs t past lives stop
      → Ends lim traces words' logs' t past lives' stop
  ends_on logs logs' Idle least l = tt
  ends_on logs logs' Running least l = tt
  ends_on logs logs' (Returned value) least l = tt
  ends_on logs logs' (Trap trap) least l = tt
  ends_on logs logs' (Full place what) least l = full_on logs logs' what least l
  ends_on logs logs' Fuel least l = tt

pub ended_on : (lim : Bounds) (traces : List (List Step)) (words words' : List ℕ) (logs : Logs) (t : ℕ) (past : Past)
    (lives lives' : ℕ → ℕ) (stop : Stop) → Ends lim traces words logs t past lives stop
    → Ends lim traces words' logs t past lives' stop
ended_on lim traces words words' logs t past lives lives' stop l =
    ends_on lim traces words words' t past lives lives' logs logs stop (omega arith) l

module _ (lim : Bounds) (traces : List (List Step)) (words words' : List ℕ) (logs logs' : Logs) (t : ℕ) (past : Past)
    (lives lives' : ℕ → ℕ) (u : ℕ) (few : t < 16) (ne : u ≡ t → ⊥) (passes : Passes lim u words words' logs logs')
    (grown : (place : ℕ) → lives place ≤ lives' place) where
  -- the log of t is none of u
  not_mine : (log : ℕ) → logs.owner log ≡ t → u ≡ logs.owner log → ⊥
  not_mine log owner_is is = ne (is ∙ owner_is)

  same_on : (place : ℕ) → place < 256 * lim.pages
      → SamePlace lim traces words words' logs logs' t past past lives lives' place
  same_on place inside = record {
    home_is = passes.homes t place few inside ne;
    before = drawn_before lim u t place words words' logs logs' passes ne;
    headers = λ log drawn few' place_is owner_is. passes.headers log drawn few' (not_mine log owner_is);
    holds = λ log life used drawn few' place_is owner_is header_is used_few.
        same_holds lim words words' log log used
        (λ n lt. passes.entries log n drawn few' (not_mine log owner_is) (omega (arith, lt, used_few)));
    noted = λ life. refl;
    has = λ life loc. refl;
    seen = omega arith;
    seen_now = λ now. omega (arith, now, grown place);
  }

  kept_all_on : KeptAll lim traces words logs t past lives → KeptAll lim traces words' logs' t past lives'
  kept_all_on kept place inside =
      kept_on lim traces words words' logs logs' t past past lives lives' place passes.later (same_on place inside)
      (kept place inside)

  owns_on : OwnsAll lim traces words logs t past lives → OwnsAll lim traces words' logs' t past lives'
  owns_on owns place inside =
      own_on lim traces words words' logs logs' t past past lives lives' place passes.later (same_on place inside)
      (owns place inside)

  others_on : (but : ℕ) → OwnsOthers lim traces words logs t past lives but
      → OwnsOthers lim traces words' logs' t past lives' but
  others_on but owns place inside apart =
      own_on lim traces words words' logs logs' t past past lives lives' place passes.later (same_on place inside)
      (owns place inside apart)

  knows_on : (place life : ℕ) → Knows lim traces words logs t past lives place life
      → Knows lim traces words' logs' t past lives' place life
  knows_on place life knows = record {
    place_is = knows.place_is;
    found = knows.found;
    found_is = knows.found_is;
    seen_is = knows.seen_is;
    now = omega (arith, knows.now, grown place);
  }

  drew_on : (place log life : ℕ) → Knows lim traces words logs t past lives place life
      → Drew lim traces words logs t past lives place log → Drew lim traces words' logs' t past lives' place log
  drew_on place log life knows drew = record {
    drawn = omega (arith, drew.drawn, passes.later.least);
    few = drew.few;
    place_is = passes.later.places log drew.drawn ∙ drew.place_is;
    owner_is = passes.later.owners log drew.drawn ∙ drew.owner_is;
    no_home = passes.homes t place few knows.place_is ne ∙ drew.no_home;
    unnoted = drew.unnoted;
  }

  uses_on : (place life log used : ℕ) → Uses lim traces words logs t past lives place life log used
      → Uses lim traces words' logs' t past lives' place life log used
  uses_on place life log used uses = record {
    owns = owns_on uses.owns;
    knows = knows_on place life uses.knows;
    is_home = passes.homes t place few uses.knows.place_is ne ∙ uses.is_home;
    noted = uses.noted;
    left = uses.left;
  }

  -- the log at which it is at home
  module _ (place life log used : ℕ) (uses : Uses lim traces words logs t past lives place life log used) where
    abbrev at_home : Logged lim traces words logs t past lives place log
    at_home = (uses.owns place uses.knows.place_is).kept.some log uses.is_home

    header_on : IsHeader lim traces words logs t past lives life log used
        → IsHeader lim traces words' logs' t past lives' life log used
    header_on is = passes.headers log at_home.drawn at_home.few (not_mine log at_home.owner_is) ∙ is

    entry_on : entry lim words' log used ≡ entry lim words log used
    entry_on = passes.entries log used at_home.drawn at_home.few (not_mine log at_home.owner_is) uses.left

  lists_on : (at : ListAt) → Lists lim traces words logs t past lives at
      → Lists lim traces words' logs' t past lives' at
  lists_on (LoadHome place life) l = (owns_on l.0, knows_on place life l.1)
  lists_on (DrawLog place life) l =
      (owns_on l.0, knows_on place life l.1, passes.homes t place few l.1.place_is ne ∙ l.2)
  lists_on (StoreHeader place life log) l =
      (others_on place l.0, knows_on place life l.1, drew_on place log life l.1 l.2)
  lists_on (StoreHome place life log) l = (
    others_on place l.0,
    knows_on place life l.1,
    drew_on place log life l.1 l.2,
    passes.headers log l.2.drawn l.2.few (not_mine log l.2.owner_is) ∙ l.3,
  )
  lists_on (LoadHeader place life log) l =
      (owns_on l.0, knows_on place life l.1, passes.homes t place few l.1.place_is ne ∙ l.2)

  notes_on : (at : NoteAt) → Notes lim traces words logs t past lives at
      → Notes lim traces words' logs' t past lives' at
  notes_on (notes.LoadPage loc value) l = (owns_on l.0, l.1)
  notes_on (notes.LoadBlock loc place start) l = (owns_on l.0, l.1, l.2)
  notes_on (notes.Seek loc at) l = (lists_on at l.0, l.1)
  notes_on (notes.StoreLife loc place life log) l = (uses_on place life log 0 l.0, l.1)
  notes_on (notes.StoreEntry loc place life log used) l =
      (uses_on place life log used l.0, header_on place life log used l.0 l.1, l.2)
  notes_on (notes.CountEntry loc place life log used) l = (
    uses_on place life log used l.0,
    header_on place life log used l.0 l.1,
    l.2,
    entry_on place life log used l.0 ∙ l.3,
  )

  -- a step of another thread keeps the link
  pub linked_on : (p : Position) → Stands lim traces words logs t past lives p
      → Stands lim traces words' logs' t past lives' p
  linked_on (Start at) l = owns_on l
  linked_on (Access at) l = owns_on l
  linked_on (Malloc at) l = (owns_on l.0, l.1)
  linked_on (Note at) l = notes_on at l
  linked_on (Free at) l = (owns_on l.0, l.1)
  linked_on (Spawn at) l = (owns_on l.0, l.1)
  linked_on (Join at) l = owns_on l
  linked_on (DrawPrint value) l = owns_on l
  linked_on (StoreEnded stop) l =
      (ends_on lim traces words words' t past lives lives' logs logs' stop passes.later.least l.0, kept_all_on l.1)
  linked_on (Over stop) l =
      (ends_on lim traces words words' t past lives lives' logs logs' stop passes.later.least l.0, kept_all_on l.1)
  linked_on NoRow l = owns_on l
