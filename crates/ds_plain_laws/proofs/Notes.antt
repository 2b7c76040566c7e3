-- What each row of a note does: its event is allowed, and words, state and threads go together afterwards. What the
-- words of the logs hold is no part of it.
use Rattle.std.proofs.Common.{◌≡◌, ℕ, ◌+◌, ◌-◌, ◌*◌, ◌^◌, ◌<◌, ◌≤◌, ◌==◌, Bool, true, false, if◌then◌else◌}
use Rattle.std.proofs.Common.{nat_le, nat_lt, List, [], ◌∷◌, Some, slice_index, refl, sym, ap, ◌∙◌, subst, arith}
use Rattle.std.proofs.Common.{eqb-true, ltb-true, leb-true}
use Rattle.std.proofs.lemmas.Bool.{eq-eqb, and_parts}
use Rattle.ds_map.specs.Bounds.{Bounds}
use Rattle.ds_map.specs.Blocks.{page_of, page_at, place_holding}
use Rattle.ds_map.specs.Regions.{heap, lies_in, program_words}
use Rattle.ds_map.specs.Words.{first_page_word, first_block_word}
use Rattle.ds_pages.specs.Words.{class_in}
use Rattle.ds_entry.specs.Header.{log_entries, header_of, life_in, used_in, chunk_in}
use Rattle.ds_step.specs.declared.FullWhat.{FullWhat}
use Rattle.ds_step.specs.declared.FullWhat.TheVariants as tables
use Rattle.ds_step.specs.declared.Event.TheVariants as events
use Rattle.ds_step.specs.Word.{words_after, answer_on}
use Rattle.ds_plain.specs.declared.Stop.TheVariants.{Full}
use Rattle.ds_plain.specs.declared.ListAt.{ListAt}
use Rattle.ds_plain.specs.declared.ListAt.TheVariants.{LoadHome, DrawLog, StoreHeader, StoreHome, LoadHeader}
use Rattle.ds_plain.specs.declared.NoteAt.{NoteAt}
use Rattle.ds_plain.specs.declared.NoteAt.TheVariants.{LoadPage, LoadBlock, Seek, StoreLife, StoreEntry, CountEntry}
use Rattle.ds_plain.specs.declared.Position.TheVariants.{Note, StoreEnded}
use Rattle.ds_plain.specs.declared.Request.TheVariants as requests
use Rattle.ds_plain.specs.Behaviour.{Behaviour, place_in_text, told}
use Rattle.ds_plain.specs.State.{Use, Free, Live, Freeing, use_word, Doing, Phase, State, Setting}
use Rattle.ds_plain.specs.Plain.{IsLive, IsLiveAt, so_far, phase_with, phase_answered, place_of_phase, changed}
use Rattle.ds_plain.specs.Listing.{HomeSeen, NoHome, HomeOf, NoHomeWord, home_seen, is_header, HeaderSeen, HasRoom}
use Rattle.ds_plain.specs.Listing.{HasNoRoom, OfOther, NoHeader, header_seen, header_loaded, list_event, ListsOn}
use Rattle.ds_plain.specs.Listing.{FailsList, behind_home_load, behind_header_load, list_next, list_place, list_life}
use Rattle.ds_plain.specs.Freeing.{LifeSeen, LiveIn, NotLive, NoBlockWord, life_seen}
use Rattle.ds_plain.specs.Noting.{HeldSeen, HeldIn, HeldByNone, NoPageWord, held_seen, note_op, held_loaded}
use Rattle.ds_plain.specs.Noting.{found_loaded, note_event, NotesOn, behind_held_load, behind_found_load, with_log}
use Rattle.ds_plain.specs.Noting.{behind_list, note_next, IsInLog, IsNoteAt}
use Rattle.ds_plain.specs.Thread.{Thread, standing, going_on, moved_from_note}
use Rattle.ds_plain.specs.Explained.{Agrees}
use Rattle.ds_plain_laws.proofs.Choices.{replaced_same}
use Rattle.ds_plain_laws.proofs.Heap.{class_in_word, page_inside, SeesHeld, sees_held, SeesLife, sees_life}
use Rattle.ds_plain_laws.proofs.Heap.{word_parts, use_live}
use Rattle.ds_plain_laws.proofs.Words.{SameTables, agrees_loaded, agrees_marked, agrees_listed}
use Rattle.ds_plain_laws.proofs.Phases.{Runs, Asking, asks_for, doing_so_far}
use Rattle.ds_plain_laws.proofs.Leaving.{leaves_all}
use Rattle.ds_plain_laws.proofs.Links.{NoteFound, NoteLinked, LinkedAt, Trapped, note_goes}
use Rattle.ds_plain_laws.proofs.Makes.{Makes, Before, replaced_passes, all_same, answered_linked}

-- a block that is live has that number
live_number : (use' : Use) → IsLive use' → use_word use' ≡ 1
live_number Free live = absurd live
live_number Live live = refl
live_number (Freeing thread) live = absurd live

-- WHAT THE WORDS OF THE LOGS SAY

-- a home word names one of the logs
home_small : (lim : Bounds) (word log : ℕ) → home_seen lim word ≡ HomeOf log → log < lim.logs
home_small lim word log e = by (word == 0) refl e
  where
    by_some : (b : Bool) → nat_le word lim.logs ≡ b → (word == 0) ≡ false
        → (if b then HomeOf (word - 1) else NoHomeWord) ≡ HomeOf log → log < lim.logs
    by_some true le some e' =
        let less = leb-true word lim.logs le in
        let same : word - 1 ≡ log = cc (e') in
        let not_zero : word ≡ 0 → ⊥ = λ z. let is : (word == 0) ≡ true = eq-eqb word 0 z in absurd (cc (is, some)) in
        grind (arith, less, same, not_zero)
    by_some false le some e' = absurd (cc (e'))

    by : (b : Bool) → (word == 0) ≡ b
        → (if b then NoHome else (if nat_le word lim.logs then HomeOf (word - 1) else NoHomeWord)) ≡ HomeOf log
        → log < lim.logs
    by true is e' = absurd (cc (e'))
    by false is e' = by_some (nat_le word lim.logs) refl is e'

-- what a note makes of a header: where the entries are about its life and it goes on, one is left
pub record SeesHeader (life word : ℕ) (seen : HeaderSeen) : Type 0 where
  pub room : seen ≡ HasRoom → used_in word < log_entries
  pub other : seen ≡ OfOther → life_in word ≡ life → ⊥

sees_header : (life word : ℕ) → SeesHeader life word (header_seen life word)
sees_header life word = by (is_header word) refl
  where
    by_used : (b : Bool) → (used_in word == log_entries) ≡ b → used_in word ≤ log_entries
        → SeesHeader life word (if b then HasNoRoom else HasRoom)
    by_used true is le = record { room = λ e. absurd (cc (e)); other = λ e. absurd (cc (e)) }
    by_used false is le = record {
      room = λ e. let ne : used_in word ≡ log_entries → ⊥ =
          λ same. let full : (used_in word == log_entries) ≡ true = eq-eqb (used_in word) log_entries same in
          absurd (cc (full, is)) in
          grind (arith, le, ne);
      other = λ e. absurd (cc (e));
    }

    by_life : (b : Bool) → (life_in word == life) ≡ b → used_in word ≤ log_entries
        → SeesHeader life word (if b then (if used_in word == log_entries then HasNoRoom else HasRoom) else OfOther)
    by_life true is le = by_used (used_in word == log_entries) refl le
    by_life false is le = record {
      room = λ e. absurd (cc (e));
      other = λ e same. let here : (life_in word == life) ≡ true = eq-eqb (life_in word) life same in
          absurd (cc (here, is));
    }

    by : (b : Bool) → is_header word ≡ b
        → SeesHeader life word (if b then (if life_in word == life
        then (if used_in word == log_entries then HasNoRoom else HasRoom) else OfOther) else NoHeader)
    by true is =
        by_life (life_in word == life) refl
        (leb-true (used_in word) log_entries
        (and_parts (nat_le (used_in word) log_entries) (chunk_in word == 0) is).0)
    by false is = record { room = λ e. absurd (cc (e)); other = λ e. absurd (cc (e)) }

module _ (setting : Setting) (t : ℕ) (words : List ℕ) (s : State) (before : Before setting words s) (few : t < 16)
    (rest : Behaviour) (units : ℕ) (began : Bool) (cursors : List ℕ) where
  abbrev lim : Bounds
  lim = setting.lim

  abbrev thread : NoteAt → Thread
  thread at = record { rest = rest; position = Note at; units = units; began = began; cursors = cursors }

  abbrev Links : NoteAt → Type 0
  Links at = LinkedAt setting.program lim t rest began s cursors (Note at)

  abbrev IsLinkedAt : NoteAt → Type 0
  IsLinkedAt at = NoteLinked lim rest began s.pages (s.threads t) at

  abbrev Found : (loc place life : ℕ) → Type 0
  Found loc place life = NoteFound rest began (s.threads t) loc place life

  -- WORDS

  -- no step changes a word of the counts, a page, a block or program memory
  op_agrees : (at : NoteAt) (s' : State) → IsNoteAt lim at → SameTables s s' → s'.words ≡ s.words
      → Agrees lim (words_after words (note_op lim t at)) s'
  op_agrees (LoadPage loc value) s' reached same kept =
      agrees_loaded lim words s s' before.agrees (note_op lim t (LoadPage loc value)).word same kept
  op_agrees (LoadBlock loc place start) s' reached same kept =
      agrees_loaded lim words s s' before.agrees (note_op lim t (LoadBlock loc place start)).word same kept
  op_agrees (Seek loc (LoadHome place life)) s' reached same kept =
      agrees_loaded lim words s s' before.agrees (note_op lim t (Seek loc (LoadHome place life))).word same kept
  op_agrees (Seek loc (DrawLog place life)) s' reached same kept =
      agrees_marked lim words s s' before.agrees (note_op lim t (Seek loc (DrawLog place life))).word _ (omega arith)
      (omega arith) same kept
  op_agrees (Seek loc (StoreHeader place life log)) s' reached same kept =
      agrees_listed lim words s s' before.agrees (note_op lim t (Seek loc (StoreHeader place life log))).word _
      (omega arith) (omega (arith, reached.1.1)) same kept
  op_agrees (Seek loc (StoreHome place life log)) s' reached same kept =
      agrees_listed lim words s s' before.agrees (note_op lim t (Seek loc (StoreHome place life log))).word _
      (omega arith) (omega (arith, reached.1.0.place_is, few)) same kept
  op_agrees (Seek loc (LoadHeader place life log)) s' reached same kept =
      agrees_loaded lim words s s' before.agrees (note_op lim t (Seek loc (LoadHeader place life log))).word same kept
  op_agrees (StoreLife loc place life log) s' reached same kept =
      agrees_listed lim words s s' before.agrees (note_op lim t (StoreLife loc place life log)).word _ (omega arith)
      (omega (arith, reached.log_is)) same kept
  op_agrees (StoreEntry loc place life log used) s' reached same kept =
      agrees_listed lim words s s' before.agrees (note_op lim t (StoreEntry loc place life log used)).word _
      (omega arith) (omega (arith, reached.0.log_is, reached.1)) same kept
  op_agrees (CountEntry loc place life log used) s' reached same kept =
      agrees_listed lim words s s' before.agrees (note_op lim t (CountEntry loc place life log used)).word _
      (omega arith) (omega (arith, reached.0.log_is)) same kept

  -- WHAT A STEP MAKES

  -- it goes on with another row
  on_makes : (at at' : NoteAt) → Links at → IsLinkedAt at' → IsNoteAt lim at'
      → Makes setting t words s (note_op lim t at) events.Log s
      (standing lim cursors rest (units + 1) began (Note at'))
  on_makes at at' l linked reached = record {
    allowed = λ h. absurd (cc (h));
    linked = note_goes setting.program lim t s cursors l.looks rest (units + 1) began at' (linked, reached) l.frees_so;
    others = λ u ne. all_same setting t s u;
    leaves = leaves_all t s s refl refl;
    agrees = op_agrees at s l.stands.1 (record { given = refl; out = refl; pages = refl; blocks = refl }) refl;
    prints = omega arith;
  }

  -- no live block holds the value
  skip_makes : (at : NoteAt) (loc value : ℕ) → Links at → Asking rest (s.threads t) (requests.Note loc value)
      → (IsLiveAt s (place_holding lim s.pages value) → ⊥)
      → Makes setting t words s (note_op lim t at) events.Skip (changed setting s t events.Skip)
      (going_on lim cursors (units + 1) (told rest 0))
  skip_makes at loc value l asking none =
      let s' : State = changed setting s t events.Skip in
      record {
        allowed = λ _. (loc, value, asks_for setting s t rest (requests.Note loc value) asking, none);
        linked = answered_linked setting t s before.walks before.range s 0 rest asking.runs.doing (units + 1) cursors
            asking.runs.going l.frees_so l.looks;
        others = replaced_passes setting t s s (phase_answered lim s 0 (s.threads t)) (all_same setting t s);
        leaves = leaves_all t s s' refl refl;
        agrees = op_agrees at s' l.stands.1 (record { given = refl; out = refl; pages = refl; blocks = refl }) refl;
        prints = omega arith;
      }

  -- what it has found
  found_so_far : (loc place life : ℕ) (found : Found loc place life) → (so_far setting s t).found ≡ Some (place, life)
  found_so_far loc place life found =
      let runs = found.asking.runs in
      ap (λ (d : Doing). d.found) (doing_so_far setting s t rest runs.doing runs.going) ∙ found.found

  -- a table is full
  full_makes : (at : NoteAt) (what : FullWhat) (loc place life : ℕ) → Links at → Found loc place life
      → Makes setting t words s (note_op lim t at) (events.Full what) (changed setting s t (events.Full what))
      (standing lim cursors rest (units + 1) began (StoreEnded (Full (place_in_text (rest [])) what)))
  full_makes at what loc place life l found =
      let asking = found.asking in
      let ends : Doing → Doing = λ doing. record doing {
        ended = Some (Full (place_of_phase (s.threads t)) what);
      } in
      let s' : State = changed setting s t (events.Full what) in
      let phase : Phase = phase_with ends (s.threads t) in
      record {
        allowed = λ _. (
          (loc, found.value, asks_for setting s t rest (requests.Note loc found.value) asking),
          ((place, life), found_so_far loc place life found),
        );
        linked = record {
          stands = Trapped found.has_begun (record {
            doing = ends asking.runs.doing;
            going = replaced_same s.threads t phase ∙ ap (phase_with ends) asking.runs.going;
            ended = ap (λ (phase : Phase). Some (Full (place_of_phase phase) what)) asking.runs.going;
          });
          frees_so = tt;
          looks = l.looks;
        };
        others = replaced_passes setting t s s phase (all_same setting t s);
        leaves = leaves_all t s s' refl refl;
        agrees = op_agrees at s' l.stands.1 (record { given = refl; out = refl; pages = refl; blocks = refl }) refl;
        prints = omega arith;
      }

  -- THE PAGE

  abbrev page_number : ℕ → ℕ
  page_number value = slice_index words (first_page_word + page_at value)

  -- its word says what the pages say
  sees_so : (loc value : ℕ) → IsNoteAt lim (LoadPage loc value)
      → SeesHeld lim s.pages value (held_seen value (page_number value))
  sees_so loc value notable =
      let lies = (and_parts (nat_lt loc (program_words lim)) (lies_in (heap lim) value) notable).1 in
      let holds = before.agrees.pages (page_at value) (page_inside lim value lies) in
      sees_held lim s.pages value (page_number value) lies
      (ap class_in holds ∙ class_in_word (s.pages (page_at value)))

  -- a block that holds a value of the heap lies there
  held_reached : (loc value place start : ℕ) → IsNoteAt lim (LoadPage loc value) → page_of place ≡ page_at value
      → IsNoteAt lim (LoadBlock loc place start)
  held_reached loc value place start notable page =
      let parts = and_parts (nat_lt loc (program_words lim)) (lies_in (heap lim) value) notable in (
        ltb-true loc (program_words lim) parts.0,
        omega (arith, page, page_inside lim value parts.1),
      )

  load_page_by : (loc value : ℕ) (seen : HeldSeen) → SeesHeld lim s.pages value seen → Links (LoadPage loc value)
      → Makes setting t words s (note_op lim t (LoadPage loc value)) (held_loaded seen)
      (changed setting s t (held_loaded seen))
      (moved_from_note lim (thread (LoadPage loc value)) (behind_held_load loc value seen))
  load_page_by loc value (HeldIn place start) sees l =
      let held = sees.held place start refl in
      on_makes (LoadPage loc value) (LoadBlock loc place start) l (record {
        has_begun = l.stands.0.0;
        value = value;
        asking = l.stands.0.1;
        holds = held.holds;
        class = held.class;
        class_is = held.class_is;
        start_is = held.start_is;
      }) (held_reached loc value place start l.stands.1 held.page)
  load_page_by loc value HeldByNone sees l =
      skip_makes (LoadPage loc value) loc value l l.stands.0.1 (λ live. subst (IsLiveAt s) (sees.none refl) live)
  load_page_by loc value NoPageWord sees l = on_makes (LoadPage loc value) (LoadPage loc value) l l.stands.0 l.stands.1

  -- THE BLOCK

  abbrev block_number : ℕ → ℕ
  block_number place = slice_index words (first_block_word lim + place)

  -- the live block is found
  found_makes : (loc place start life : ℕ) → block_number place ≡ life * 4 + 1 → life < 2 ^ 32
      → Links (LoadBlock loc place start)
      → Makes setting t words s (note_op lim t (LoadBlock loc place start)) (events.Found place start life)
      (changed setting s t (events.Found place start life))
      (standing lim cursors rest (units + 1) began (Note (Seek loc (LoadHome place life))))
  found_makes loc place start life is small l =
      let holds = l.stands.0 in
      let asking = holds.asking in
      let parts = word_parts (s.blocks place) life 1
      (sym (before.agrees.blocks place l.stands.1.1) ∙ is) (omega arith) in
      let live : (s.blocks place).state ≡ Live = use_live (s.blocks place).state parts.1 in
      let finds : Doing → Doing = λ doing. record doing { found = Some (place, life) } in
      let s' : State = changed setting s t (events.Found place start life) in
      let phase : Phase = phase_with finds (s.threads t) in
      let runs : Runs rest (s'.threads t) = record {
        doing = finds asking.runs.doing;
        going = replaced_same s.threads t phase ∙ ap (phase_with finds) asking.runs.going;
        not_spawned = asking.runs.not_spawned;
        not_ended = asking.runs.not_ended;
      } in
      record {
        allowed = λ _. (
          (
            loc,
            holds.value,
            holds.class,
            asks_for setting s t rest (requests.Note loc holds.value) asking,
            holds.holds,
            holds.class_is,
            holds.start_is,
          ),
          subst IsLive (sym live) tt,
          sym parts.0,
        );
        linked = note_goes setting.program lim t s' cursors l.looks rest (units + 1) began
            (Seek loc (LoadHome place life)) (
              record {
                has_begun = holds.has_begun;
                value = holds.value;
                asking = record { runs = runs; begun = asking.begun; place = asking.place; asks = asking.asks };
                found = refl;
              },
              (l.stands.1.0, record { place_is = l.stands.1.1; life_is = small }),
            ) l.frees_so;
        others = replaced_passes setting t s s phase (all_same setting t s);
        leaves = leaves_all t s s' refl refl;
        agrees = op_agrees (LoadBlock loc place start) s' l.stands.1
            (record { given = refl; out = refl; pages = refl; blocks = refl }) refl;
        prints = omega arith;
      }

  load_block_by : (loc place start : ℕ) (seen : LifeSeen) → SeesLife (block_number place) seen
      → Links (LoadBlock loc place start)
      → Makes setting t words s (note_op lim t (LoadBlock loc place start)) (found_loaded place start seen)
      (changed setting s t (found_loaded place start seen))
      (moved_from_note lim (thread (LoadBlock loc place start)) (behind_found_load loc place start seen))
  load_block_by loc place start (LiveIn life) sees l =
      let is = sees.live life refl in found_makes loc place start life is.0 is.1 l
  load_block_by loc place start NotLive sees l =
      let holds = l.stands.0 in
      skip_makes (LoadBlock loc place start) loc holds.value l holds.asking
      (λ live. sees.not_live refl
      (let one = live_number (s.blocks place).state (subst (IsLiveAt s) holds.holds live) in
      omega (arith, one, before.agrees.blocks place l.stands.1.1)))
  load_block_by loc place start NoBlockWord sees l =
      on_makes (LoadBlock loc place start) (LoadBlock loc place start) l l.stands.0 l.stands.1

  -- ITS OWN LOG

  -- with its log, whose header is this, it uses an entry or begins the log anew
  owns_makes : (at : NoteAt) (loc place life log header : ℕ) → Links at → Found loc place life
      → IsInLog lim loc place life log → (life_in header ≡ life → used_in header < log_entries)
      → Makes setting t words s (note_op lim t at) events.Log s
      (moved_from_note lim (thread at) (with_log loc place life log header))
  owns_makes at loc place life log header l found reached room = by (life_in header == life) refl
    where
      by : (b : Bool) → (life_in header == life) ≡ b
          → Makes setting t words s (note_op lim t at) events.Log s (moved_from_note lim (thread at)
          (if b then NotesOn (StoreEntry loc place life log (used_in header))
          else NotesOn (StoreLife loc place life log)))
      by true is =
          on_makes at (StoreEntry loc place life log (used_in header)) l found
          (reached, room (eqb-true (life_in header) life is))
      by false is = on_makes at (StoreLife loc place life log) l found reached

  load_home_by : (loc place life : ℕ) (seen : HomeSeen) → ((log : ℕ) → seen ≡ HomeOf log → log < lim.logs)
      → Links (Seek loc (LoadHome place life))
      → Makes setting t words s (note_op lim t (Seek loc (LoadHome place life))) events.Log s
      (moved_from_note lim (thread (Seek loc (LoadHome place life)))
      (behind_list loc place life (behind_home_load place life seen)))
  load_home_by loc place life NoHome small l =
      on_makes (Seek loc (LoadHome place life)) (Seek loc (DrawLog place life)) l l.stands.0 l.stands.1
  load_home_by loc place life (HomeOf log) small l =
      on_makes (Seek loc (LoadHome place life)) (Seek loc (LoadHeader place life log)) l l.stands.0
      (l.stands.1.0, (l.stands.1.1, small log refl))
  load_home_by loc place life NoHomeWord small l =
      on_makes (Seek loc (LoadHome place life)) (Seek loc (LoadHome place life)) l l.stands.0 l.stands.1

  draw_log_by : (loc place life old : ℕ) (b : Bool) → nat_lt old lim.logs ≡ b → Links (Seek loc (DrawLog place life))
      → Makes setting t words s (note_op lim t (Seek loc (DrawLog place life)))
      (if b then events.Log else events.Full tables.Logs)
      (changed setting s t (if b then events.Log else events.Full tables.Logs))
      (moved_from_note lim (thread (Seek loc (DrawLog place life)))
      (behind_list loc place life (if b then ListsOn (StoreHeader place life old) else FailsList tables.Logs)))
  draw_log_by loc place life old true small l =
      on_makes (Seek loc (DrawLog place life)) (Seek loc (StoreHeader place life old)) l l.stands.0
      (l.stands.1.0, (l.stands.1.1, ltb-true old lim.logs small))
  draw_log_by loc place life old false none l =
      full_makes (Seek loc (DrawLog place life)) tables.Logs loc place life l l.stands.0

  load_header_by : (loc place life log old : ℕ) (seen : HeaderSeen) → SeesHeader life old seen
      → Links (Seek loc (LoadHeader place life log))
      → Makes setting t words s (note_op lim t (Seek loc (LoadHeader place life log))) (header_loaded seen)
      (changed setting s t (header_loaded seen))
      (moved_from_note lim (thread (Seek loc (LoadHeader place life log)))
      (behind_list loc place life (behind_header_load place life log old seen)))
  load_header_by loc place life log old HasRoom sees l =
      owns_makes (Seek loc (LoadHeader place life log)) loc place life log old l l.stands.0
      (record { loc_is = l.stands.1.0; block = l.stands.1.1.0; log_is = l.stands.1.1.1 }) (λ same. sees.room refl)
  load_header_by loc place life log old HasNoRoom sees l =
      full_makes (Seek loc (LoadHeader place life log)) tables.Hash loc place life l l.stands.0
  load_header_by loc place life log old OfOther sees l =
      owns_makes (Seek loc (LoadHeader place life log)) loc place life log old l l.stands.0
      (record { loc_is = l.stands.1.0; block = l.stands.1.1.0; log_is = l.stands.1.1.1 })
      (λ same. absurd (sees.other refl same))
  load_header_by loc place life log old NoHeader sees l =
      on_makes (Seek loc (LoadHeader place life log)) (Seek loc (LoadHeader place life log)) l l.stands.0 l.stands.1

  seek_makes : (loc : ℕ) (at : ListAt) (old : ℕ) → Links (Seek loc at)
      → Makes setting t words s (note_op lim t (Seek loc at)) (list_event lim at old)
      (changed setting s t (list_event lim at old))
      (moved_from_note lim (thread (Seek loc at))
      (behind_list loc (list_place at) (list_life at) (list_next lim at old)))
  seek_makes loc (LoadHome place life) old l =
      load_home_by loc place life (home_seen lim old) (λ log is. home_small lim old log is) l
  seek_makes loc (DrawLog place life) old l = draw_log_by loc place life old (nat_lt old lim.logs) refl l
  seek_makes loc (StoreHeader place life log) old l =
      on_makes (Seek loc (StoreHeader place life log)) (Seek loc (StoreHome place life log)) l l.stands.0 l.stands.1
  seek_makes loc (StoreHome place life log) old l =
      owns_makes (Seek loc (StoreHome place life log)) loc place life log (header_of life 0 0) l l.stands.0
      (record { loc_is = l.stands.1.0; block = l.stands.1.1.0; log_is = l.stands.1.1.1 }) (λ same. omega arith)
  seek_makes loc (LoadHeader place life log) old l =
      load_header_by loc place life log old (header_seen life old) (sees_header life old) l

  -- THE NOTE IS MADE

  noted_makes : (loc place life log used : ℕ) → Links (CountEntry loc place life log used)
      → Makes setting t words s (note_op lim t (CountEntry loc place life log used)) (events.Noted place life loc)
      (changed setting s t (events.Noted place life loc)) (going_on lim cursors (units + 1) (told rest 0))
  noted_makes loc place life log used l =
      let found = l.stands.0 in
      let runs = found.asking.runs in
      let noting : State = record s {
        noted = (record { place = place; life = life; loc = loc; thread = t }) ∷ s.noted;
      } in
      let s' : State = changed setting s t (events.Noted place life loc) in
      record {
        allowed = λ _. (
          (found.value, asks_for setting s t rest (requests.Note loc found.value) found.asking),
          found_so_far loc place life found,
        );
        linked = answered_linked setting t s before.walks before.range noting 0 rest runs.doing (units + 1) cursors
            runs.going l.frees_so l.looks;
        others = replaced_passes setting t s noting (phase_answered lim noting 0 (s.threads t)) (all_same setting t s);
        leaves = leaves_all t s s' refl refl;
        agrees = op_agrees (CountEntry loc place life log used) s' l.stands.1
            (record { given = refl; out = refl; pages = refl; blocks = refl }) refl;
        prints = omega arith;
      }

  -- EACH ROW

  pub note_makes : (at : NoteAt) (old : ℕ) → old ≡ answer_on words (note_op lim t at) → Links at
      → Makes setting t words s (note_op lim t at) (note_event lim at old)
      (changed setting s t (note_event lim at old))
      (moved_from_note lim (thread at) (note_next lim at old))
  note_makes (LoadPage loc value) old is l =
      subst (λ n. Makes setting t words s (note_op lim t (LoadPage loc value)) (note_event lim (LoadPage loc value) n)
      (changed setting s t (note_event lim (LoadPage loc value) n))
      (moved_from_note lim (thread (LoadPage loc value)) (note_next lim (LoadPage loc value) n))) (sym is)
      (load_page_by loc value (held_seen value (page_number value)) (sees_so loc value l.stands.1) l)
  note_makes (LoadBlock loc place start) old is l =
      subst (λ n. Makes setting t words s (note_op lim t (LoadBlock loc place start))
      (note_event lim (LoadBlock loc place start) n)
      (changed setting s t (note_event lim (LoadBlock loc place start) n))
      (moved_from_note lim (thread (LoadBlock loc place start)) (note_next lim (LoadBlock loc place start) n)))
      (sym is)
      (load_block_by loc place start (life_seen (block_number place)) (sees_life (block_number place)) l)
  note_makes (Seek loc at) old is l = seek_makes loc at old l
  note_makes (StoreLife loc place life log) old is l =
      on_makes (StoreLife loc place life log) (StoreEntry loc place life log 0) l l.stands.0
      (l.stands.1, omega arith)
  note_makes (StoreEntry loc place life log used) old is l =
      on_makes (StoreEntry loc place life log used) (CountEntry loc place life log used) l l.stands.0 l.stands.1
  note_makes (CountEntry loc place life log used) old is l = noted_makes loc place life log used l
