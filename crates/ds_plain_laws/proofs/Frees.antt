-- What each row of a free does: its event is allowed, and words, state and threads go together afterwards.
use Rattle.std.proofs.Common.{◌≡◌, ℕ, ◌+◌, ◌*◌, ◌%◌, ◌<◌, ◌==◌, Bool, true, false}
use Rattle.std.proofs.Common.{if◌then◌else◌, List, [], Option, Some, slice_index, slice_set, refl, sym, ap, ◌∙◌}
use Rattle.std.proofs.Common.{subst, inl, inr, ◌⊎◌, arith, eqb-true}
use Rattle.std.specs.Option.{option_map}
use Rattle.std.proofs.lemmas.Bool.{cases_eq, eq-eqb, and_parts}
use Rattle.ds_map.specs.Bounds.{Bounds}
use Rattle.ds_map.specs.Blocks.{page_at, place_starting}
use Rattle.ds_map.specs.Regions.{heap, lies_in}
use Rattle.ds_map.specs.Words.{first_page_word, first_block_word}
use Rattle.ds_pages.specs.declared.BlockState.TheVariants as words_of
use Rattle.ds_pages.specs.Words.{class_in, block_at, state_word}
use Rattle.ds_step.specs.declared.FreeTrap.{FreeTrap}
use Rattle.ds_step.specs.declared.FreeTrap.TheVariants.{BadFree, DoubleFree}
use Rattle.ds_step.specs.declared.WordOp.{WordOp}
use Rattle.ds_step.specs.declared.Event.TheVariants as events
use Rattle.ds_step.specs.Word.{written_by, answer_on}
use Rattle.ds_plain.specs.declared.TrapKind.{TrapKind}
use Rattle.ds_plain.specs.declared.FreeAt.{FreeAt}
use Rattle.ds_plain.specs.declared.FreeAt.TheVariants.{LoadPage, LoadBlock, SwapBlock, StoreFree}
use Rattle.ds_plain.specs.declared.Position.TheVariants.{Free}
use Rattle.ds_plain.specs.declared.Request.{Request}
use Rattle.ds_plain.specs.declared.Request.TheVariants as requests
use Rattle.ds_plain.specs.Behaviour.{Behaviour, place_in_text, told}
use Rattle.ds_plain.specs.State.{Use, Live, Freeing, Block, block_in, block_word, use_word, Doing, State}
use Rattle.ds_plain.specs.State.{Setting, replaced}
use Rattle.ds_plain.specs.State as states
use Rattle.ds_plain.specs.Plain.{Allowed, Frees, IsLive, IsNotFreeable, so_far, answered, phase_with, trap_stop}
use Rattle.ds_plain.specs.Plain.{phase_answered, with_block, noted_for, free_trap, trap_of, place_of_phase, request_of}
use Rattle.ds_plain.specs.Plain.{changed}
use Rattle.ds_plain.specs.Freeing.{StartSeen, StartOf, NoStart, NoPageWord, start_seen, LifeSeen, LiveIn, NotLive}
use Rattle.ds_plain.specs.Freeing.{NoBlockWord, life_seen, free_op, start_loaded, life_loaded, life_swapped}
use Rattle.ds_plain.specs.Freeing.{free_event}
use Rattle.ds_plain.specs.Freeing.{FreesOn, FailsFree, behind_start_load, behind_life_load, behind_life_swap}
use Rattle.ds_plain.specs.Freeing.{free_next}
use Rattle.ds_plain.specs.Freeing.{is_freeable}
use Rattle.ds_plain.specs.Reached.{AreCursors}
use Rattle.ds_plain.specs.Thread.{Thread, standing, going_on, trap_kind, moved_from_free, freed_address}
use Rattle.ds_plain.specs.Explained.{Agrees}
use Rattle.ds_plain_laws.proofs.Choices.{replaced_same, replaced_other}
use Rattle.ds_plain_laws.proofs.Heap.{class_in_word, start_of_seen, no_start_seen, starts_by_word, starts, page_inside}
use Rattle.ds_plain_laws.proofs.Heap.{SeesLife, sees_life, live_seen, word_parts, use_live}
use Rattle.ds_plain_laws.proofs.Words.{agrees_loaded, agrees_changed, swap_kept, swap_made}
use Rattle.ds_plain_laws.proofs.Phases.{Runs, asked_for, asks_for, doing_so_far}
use Rattle.ds_plain_laws.proofs.Leaving.{leaves_all, leaves_block, FreesNone, FreesAt}
use Rattle.ds_plain_laws.proofs.Links.{FreeAsking, Trapped, Linked, LinkedAt, free_goes}
use Rattle.ds_plain_laws.proofs.Makes.{Makes, Before, replaced_passes, all_same, answered_linked}

module _ (setting : Setting) (t : ℕ) (words : List ℕ) (s : State) (before : Before setting words s)
    (rest : Behaviour) (units : ℕ) (began : Bool) (cursors : List ℕ) where
  abbrev lim : Bounds
  lim = setting.lim

  abbrev thread : FreeAt → Thread
  thread at = record { rest = rest; position = Free at; units = units; began = began; cursors = cursors }

  abbrev Links : FreeAt → Type 0
  Links at = LinkedAt setting.program lim t rest began s cursors (Free at)

  abbrev Asks : ℕ → Type 0
  Asks address = FreeAsking rest began s.blocks (s.threads t) address

  -- it asks to free the block
  frees_it : (address place : ℕ) → Asks address → place_starting lim s.pages address ≡ Some place
      → Frees setting s t place
  frees_it address place asks is = (address, asks_for setting s t rest (requests.Free address) asks.asking, is)

  -- A STEP THAT CHANGES NOTHING

  log_makes : (at' : FreeAt) (op : WordOp) (address : ℕ)
      → written_by op.kind op.a op.b (slice_index words op.word) ≡ slice_index words op.word → Asks address
      → AreCursors lim cursors → Linked setting.program lim t rest began s (Free at') → FreesAt t s.blocks (Free at')
      → Makes setting t words s op events.Log s (standing lim cursors rest (units + 1) began (Free at'))
  log_makes at' op address kept asks looks here held = record {
    allowed = λ h. absurd (cc (h));
    linked = free_goes setting.program lim t s cursors looks rest (units + 1) began at' here held asks.has_begun
        asks.asking.runs;
    others = λ u ne. all_same setting t s u;
    leaves = leaves_all t s s refl refl;
    agrees = subst (λ (v : ℕ). Agrees lim (slice_set words op.word v) s) (sym kept)
        (agrees_loaded lim words s s before.agrees op.word
        (record { given = refl; out = refl; pages = refl; blocks = refl }) refl);
    prints = omega arith;
  }

  -- A STEP THAT TRAPS

  -- the trap that the plain machine finds
  trap_is : (address : ℕ) (kind : TrapKind) → Asks address
      → free_trap s address (place_starting lim s.pages address) ≡ kind
      → option_map (trap_stop (place_of_phase (s.threads t))) (trap_of lim s (request_of (s.threads t)))
      ≡ Some (trap_stop (place_in_text (rest [])) kind)
  trap_is address kind asks is =
      ap (λ (request : Option Request). option_map (trap_stop (place_of_phase (s.threads t))) (trap_of lim s request))
      (asked_for rest (s.threads t) (requests.Free address) asks.asking)
      ∙ (ap (λ place. Some (trap_stop place (free_trap s address (place_starting lim s.pages address))))
      (ap place_of_phase asks.asking.runs.going)
      ∙ ap (λ kind. Some (trap_stop (place_in_text (rest [])) kind)) is)

  trap_makes : (op : WordOp) (address : ℕ) (trap : FreeTrap)
      → written_by op.kind op.a op.b (slice_index words op.word) ≡ slice_index words op.word → Asks address
      → AreCursors lim cursors → Allowed setting s t events.Trap
      → free_trap s address (place_starting lim s.pages address) ≡ trap_kind address trap
      → Makes setting t words s op events.Trap (changed setting s t events.Trap)
      (moved_from_free lim (thread (LoadPage address)) address (FailsFree trap))
  trap_makes op address trap kept asks looks allowed is =
      let ends : Doing → Doing = λ doing. record doing {
        ended = option_map (trap_stop (place_of_phase (s.threads t))) (trap_of lim s (request_of (s.threads t)));
      } in
      let s' : State = changed setting s t events.Trap in
      record {
        allowed = λ _. allowed;
        linked = record {
          stands = Trapped asks.has_begun (record {
            doing = ends asks.asking.runs.doing;
            going = replaced_same s.threads t (phase_with ends (s.threads t))
                ∙ ap (phase_with ends) asks.asking.runs.going;
            ended = trap_is address (trap_kind address trap) asks is;
          });
          frees_so = tt;
          looks = looks;
        };
        others = replaced_passes setting t s s (phase_with ends (s.threads t)) (all_same setting t s);
        leaves = leaves_all t s s' refl refl;
        agrees = subst (λ (v : ℕ). Agrees lim (slice_set words op.word v) s') (sym kept)
            (agrees_loaded lim words s s' before.agrees op.word
            (record { given = refl; out = refl; pages = refl; blocks = refl }) refl);
        prints = omega arith;
      }

  -- THE PAGE

  abbrev page_number : ℕ → ℕ
  page_number address = slice_index words (first_page_word + page_at address)

  -- its word says what the pages say
  starts_so : (address : ℕ) → is_freeable lim address ≡ true
      → block_at address (page_number address) ≡ place_starting lim s.pages address
  starts_so address freeable =
      let lies = (and_parts (lies_in (heap lim) address) (address % 8 == 0) freeable).0 in
      let holds = before.agrees.pages (page_at address) (page_inside lim address lies) in
      starts_by_word lim s.pages address (page_number address) lies
      (ap class_in holds ∙ class_in_word (s.pages (page_at address)))

  -- a block that starts somewhere lies in the heap
  place_small : (address place : ℕ) → place_starting lim s.pages address ≡ Some place → place < 256 * lim.pages
  place_small address place is =
      let at = starts lim s.pages address place is in
      omega (arith, at.page, page_inside lim address at.lies)

  load_start_by : (address : ℕ) (seen : StartSeen) → start_seen address (page_number address) ≡ seen
      → Links (LoadPage address)
      → Makes setting t words s (free_op lim (LoadPage address)) (start_loaded seen)
      (changed setting s t (start_loaded seen))
      (moved_from_free lim (thread (LoadPage address)) address (behind_start_load address seen))
  load_start_by address (StartOf place) is l =
      let found = sym (starts_so address l.stands.1) ∙ start_of_seen address (page_number address) place is in
      log_makes (LoadBlock address place) (free_op lim (LoadPage address)) address refl l.stands.0 l.looks
      ((l.stands.0, found), (l.stands.1, place_small address place found)) l.frees_so
  load_start_by address NoStart is l =
      let none = sym (starts_so address l.stands.1) ∙ no_start_seen address (page_number address) is in
      trap_makes (free_op lim (LoadPage address)) address BadFree refl l.stands.0 l.looks
      (inr (inl (address, asks_for setting s t rest (requests.Free address) l.stands.0.asking, none)))
      (ap (free_trap s address) none)
  load_start_by address NoPageWord is l =
      log_makes (LoadPage address) (free_op lim (LoadPage address)) address refl l.stands.0 l.looks l.stands l.frees_so

  -- THE BLOCK

  abbrev block_number : ℕ → ℕ
  block_number place = slice_index words (first_block_word lim + place)

  block_holds : (place : ℕ) → place < 256 * lim.pages → block_number place ≡ block_word (s.blocks place)
  block_holds place lt = before.agrees.blocks place lt

  -- what the plain machine tells of a second free
  told_twice : (address place : ℕ) → place_starting lim s.pages address ≡ Some place → place < 256 * lim.pages
      → free_trap s address (place_starting lim s.pages address) ≡ trap_kind address (DoubleFree (block_number place))
  told_twice address place is lt =
      ap (free_trap s address) is ∙ ap (λ n. trap_kind address (DoubleFree n)) (sym (block_holds place lt))

  -- a block whose word is not that of a live one cannot be freed
  not_freeable : (place life : ℕ) → place < 256 * lim.pages → FreesNone t s.blocks → (block_number place % 4 ≡ 1 → ⊥)
      → IsNotFreeable t life (s.blocks place).life (s.blocks place).state
  not_freeable place life lt none ne = by (s.blocks place).state refl
    where
      by : (use' : Use) → (s.blocks place).state ≡ use' → IsNotFreeable t life (s.blocks place).life use'
      by states.Free is = tt
      by Live is = absurd (ne (let one : use_word (s.blocks place).state ≡ 1 = ap use_word is in
          omega (arith, one, block_holds place lt)))
      by (Freeing thread) is = λ same. none place (is ∙ ap Freeing same)

  twice_allowed : (address place : ℕ) (asks : Asks address) → place_starting lim s.pages address ≡ Some place
      → IsNotFreeable t (asks.asking.runs.doing.lives place) (s.blocks place).life (s.blocks place).state
      → Allowed setting s t events.Trap
  twice_allowed address place asks is freeable =
      let runs = asks.asking.runs in
      let same : (so_far setting s t).lives place ≡ runs.doing.lives place =
      ap (λ (d : Doing). d.lives place) (doing_so_far setting s t rest runs.doing runs.going) in
      inr (inr (
        address,
        place,
        asks_for setting s t rest (requests.Free address) asks.asking,
        is,
        subst (λ life. IsNotFreeable t life (s.blocks place).life (s.blocks place).state) (sym same) freeable,
      ))

  load_life_by : (address place : ℕ) (seen : LifeSeen) → SeesLife (block_number place) seen
      → Links (LoadBlock address place)
      → Makes setting t words s (free_op lim (LoadBlock address place)) (life_loaded seen)
      (changed setting s t (life_loaded seen))
      (moved_from_free lim (thread (LoadBlock address place)) address
      (behind_life_load address place (block_number place) seen))
  load_life_by address place (LiveIn life) sees l =
      let asks = l.stands.0.0 in
      let is = sees.live life refl in
      let parts = word_parts (s.blocks place) life 1 (sym (block_holds place l.stands.1.1) ∙ is.0) (omega arith) in
      log_makes (SwapBlock address place life) (free_op lim (LoadBlock address place)) address refl asks l.looks (
        (
          record {
            asks = asks;
            since = omega (arith, asks.older place, parts.0);
            before = omega (arith, parts.0);
          },
          l.stands.0.1,
        ),
        (l.stands.1.0, l.stands.1.1, is.1),
      ) l.frees_so
  load_life_by address place NotLive sees l =
      let asks = l.stands.0.0 in
      trap_makes (free_op lim (LoadBlock address place)) address (DoubleFree (block_number place)) refl asks l.looks
      (twice_allowed address place asks l.stands.0.1
      (not_freeable place (asks.asking.runs.doing.lives place) l.stands.1.1 l.frees_so (sees.not_live refl)))
      (told_twice address place l.stands.0.1 l.stands.1.1)
  load_life_by address place NoBlockWord sees l =
      log_makes (LoadBlock address place) (free_op lim (LoadBlock address place)) address refl l.stands.0.0 l.looks
      l.stands l.frees_so

  -- IT TAKES THE BLOCK

  begin_makes : (address place life : ℕ) → block_number place ≡ state_word life words_of.Live
      → Links (SwapBlock address place life)
      → Makes setting t words s (free_op lim (SwapBlock address place life)) (events.BeginFree place life)
      (changed setting s t (events.BeginFree place life))
      (standing lim cursors rest (units + 1) began (Free (StoreFree place life)))
  begin_makes address place life is l =
      let asks = l.stands.0.0.asks in
      let lt : place < 256 * lim.pages = l.stands.1.1 in
      let parts = word_parts (s.blocks place) life 1 (sym (block_holds place lt) ∙ is) (omega arith) in
      let live : (s.blocks place).state ≡ Live = use_live (s.blocks place).state parts.1 in
      let dues : Doing → Doing = λ doing. record doing { due = noted_for place life s.noted } in
      let begun : State = with_block place life (Freeing t) s in
      let s' : State = changed setting s t (events.BeginFree place life) in
      let runs : Runs rest (s'.threads t) = record {
        doing = dues asks.asking.runs.doing;
        going = replaced_same s.threads t (phase_with dues (s.threads t))
            ∙ ap (phase_with dues) asks.asking.runs.going;
        not_spawned = asks.asking.runs.not_spawned;
        not_ended = asks.asking.runs.not_ended;
      } in
      record {
        allowed = λ _. (
          frees_it address place asks l.stands.0.1,
          subst IsLive (sym live) tt,
          sym parts.0,
        );
        linked = free_goes setting.program lim t s' cursors l.looks rest (units + 1) began (StoreFree place life) (
          (
            address,
            record {
              has_begun = asks.has_begun;
              asking = record {
                runs = runs;
                begun = asks.asking.begun;
                place = asks.asking.place;
                asks = asks.asking.asks;
              };
              older = λ other. omega (
                arith,
                asks.older other,
                life_kept place life other parts.0 (cases_eq place other),
              );
            },
            l.stands.0.1,
            replaced_same s.blocks place (block_in life (Freeing t)),
          ),
          (lt, l.stands.1.2),
        ) (λ other held. only place life other l.frees_so (cases_eq place other) held) asks.has_begun runs;
        others = replaced_passes setting t s begun (phase_with dues (s.threads t)) (all_same setting t s);
        leaves = leaves_block t s s' place (block_in life (Freeing t)) (record {
          life = omega (arith, parts.0);
          freed = λ u ne held. let known : Live ≡ Freeing u = sym live ∙ held in absurd (cc (known));
          begun = λ u ne held. ne (cc (held));
        }) refl refl;
        agrees = subst (λ (v : ℕ). Agrees lim (slice_set words (first_block_word lim + place) v) s')
            (sym (swap_made (state_word life words_of.Live) (state_word life words_of.Freeing) (block_number place) is))
            (agrees_changed lim words s s' before.agrees place (block_in life (Freeing t)) lt before.roomy refl refl
            refl refl refl);
        prints = omega arith;
      }
    where
      life_kept : (place life other : ℕ) → (s.blocks place).life ≡ life → ((place ≡ other) ⊎ (place ≡ other → ⊥))
          → (replaced s.blocks place (block_in life (Freeing t)) other).life ≡ (s.blocks other).life
      life_kept place life other same (inl e) =
          subst (λ p. (replaced s.blocks place (block_in life (Freeing t)) p).life ≡ (s.blocks p).life) e
          (ap (λ (b : Block). b.life) (replaced_same s.blocks place (block_in life (Freeing t))) ∙ sym same)
      life_kept place life other same (inr ne) =
          ap (λ (b : Block). b.life) (replaced_other s.blocks place (block_in life (Freeing t)) other ne)

      only : (place life other : ℕ) → FreesNone t s.blocks → ((place ≡ other) ⊎ (place ≡ other → ⊥))
          → (replaced s.blocks place (block_in life (Freeing t)) other).state ≡ Freeing t → other ≡ place
      only place life other none (inl e) held = sym e
      only place life other none (inr ne) held =
          absurd (none other
          (ap (λ (b : Block). b.state) (sym (replaced_other s.blocks place (block_in life (Freeing t)) other ne))
          ∙ held))

  swap_live_by : (address place life seen : ℕ) (b : Bool) → (seen == life) ≡ b → block_number place ≡ seen * 4 + 1
      → Links (SwapBlock address place life)
      → Makes setting t words s (free_op lim (SwapBlock address place life))
      (if b then events.BeginFree place life else events.Trap)
      (changed setting s t (if b then events.BeginFree place life else events.Trap))
      (moved_from_free lim (thread (SwapBlock address place life)) address
      (if b then FreesOn (StoreFree place life) else FailsFree (DoubleFree (block_number place))))
  swap_live_by address place life seen true same is l =
      let e = eqb-true seen life same in
      begin_makes address place life (omega (arith, is, e)) l
  swap_live_by address place life seen false other is l =
      let saw = l.stands.0.0 in
      let lt : place < 256 * lim.pages = l.stands.1.1 in
      let ne : seen ≡ life → ⊥ =
      λ e. let same : (seen == life) ≡ true = eq-eqb seen life e in absurd (cc (same, other)) in
      let parts = word_parts (s.blocks place) seen 1 (sym (block_holds place lt) ∙ is) (omega arith) in
      let live : (s.blocks place).state ≡ Live = use_live (s.blocks place).state parts.1 in
      trap_makes (free_op lim (SwapBlock address place life)) address (DoubleFree (block_number place))
      (swap_kept (state_word life words_of.Live) (state_word life words_of.Freeing) (block_number place)
      (λ e. ne (omega (arith, e, is)))) saw.asks l.looks
      (twice_allowed address place saw.asks l.stands.0.1
      (subst (IsNotFreeable t (saw.asks.asking.runs.doing.lives place) (s.blocks place).life) (sym live)
      (λ e. ne (omega (arith, e, saw.since, saw.before, parts.0)))))
      (told_twice address place l.stands.0.1 lt)

  swap_life_by : (address place life : ℕ) (seen : LifeSeen) → life_seen (block_number place) ≡ seen
      → SeesLife (block_number place) seen → Links (SwapBlock address place life)
      → Makes setting t words s (free_op lim (SwapBlock address place life)) (life_swapped place life seen)
      (changed setting s t (life_swapped place life seen))
      (moved_from_free lim (thread (SwapBlock address place life)) address
      (behind_life_swap address place life (block_number place) seen))
  swap_life_by address place life (LiveIn seen) is sees l =
      swap_live_by address place life seen (seen == life) refl (sees.live seen refl).0 l
  swap_life_by address place life NotLive is sees l =
      let asks = l.stands.0.0.asks in
      trap_makes (free_op lim (SwapBlock address place life)) address (DoubleFree (block_number place))
      (swap_kept (state_word life words_of.Live) (state_word life words_of.Freeing) (block_number place)
      (λ e. sees.not_live refl (omega (arith, e)))) asks l.looks
      (twice_allowed address place asks l.stands.0.1
      (not_freeable place (asks.asking.runs.doing.lives place) l.stands.1.1 l.frees_so (sees.not_live refl)))
      (told_twice address place l.stands.0.1 l.stands.1.1)
  swap_life_by address place life NoBlockWord is sees l =
      log_makes (SwapBlock address place life) (free_op lim (SwapBlock address place life)) address
      (swap_kept (state_word life words_of.Live) (state_word life words_of.Freeing) (block_number place)
      (λ e. let known : LiveIn life ≡ NoBlockWord =
      sym (live_seen life l.stands.1.2) ∙ (ap life_seen (sym e) ∙ is) in absurd (cc (known)))) l.stands.0.0.asks l.looks
      l.stands l.frees_so

  -- IT GIVES THE BLOCK BACK

  end_free_makes : (place life : ℕ) → Links (StoreFree place life)
      → Makes setting t words s (free_op lim (StoreFree place life)) (events.EndFree place)
      (changed setting s t (events.EndFree place)) (going_on lim cursors (units + 1) (told rest 0))
  end_free_makes place life l =
      let address = l.stands.0.0 in
      let asks = l.stands.0.1 in
      let lt : place < 256 * lim.pages = l.stands.1.0 in
      let held : (s.blocks place).state ≡ Freeing t = ap (λ (b : Block). b.state) l.stands.0.3 in
      let same : (s.blocks place).life ≡ life = ap (λ (b : Block). b.life) l.stands.0.3 in
      let freed : Block = block_in (s.blocks place).life states.Free in
      let s' : State = with_block place (s.blocks place).life states.Free s in
      let after : State = answered lim t 0 s' in
      let runs = asks.asking.runs in
      record {
        allowed = λ _. (
          (frees_it address place asks l.stands.0.2, held),
          inr before.weak,
        );
        linked = answered_linked setting t s before.walks before.range s' 0 rest runs.doing (units + 1) cursors
            runs.going (λ other is. none_left place other l.frees_so (cases_eq place other) is) l.looks;
        others = replaced_passes setting t s s' (phase_answered lim s' 0 (s.threads t)) (all_same setting t s);
        leaves = leaves_block t s after place freed (record {
          life = omega arith;
          freed = λ u ne is. let known : Freeing t ≡ Freeing u = sym held ∙ is in ne (cc (known));
          begun = λ u ne is. absurd (cc (is));
        }) refl refl;
        agrees = subst (λ n. Agrees lim (slice_set words (first_block_word lim + place) (state_word n words_of.Free))
            after) same
            (agrees_changed lim words s after before.agrees place freed lt before.roomy refl refl refl refl refl);
        prints = omega arith;
      }
    where
      none_left : (place other : ℕ) → FreesAt t s.blocks (Free (StoreFree place life))
          → ((place ≡ other) ⊎ (place ≡ other → ⊥))
          → (replaced s.blocks place (block_in (s.blocks place).life states.Free) other).state ≡ Freeing t → ⊥
      none_left place other only (inl e) is =
          let known : states.Free ≡ Freeing t =
          ap (λ (b : Block). b.state)
          (sym (replaced_same s.blocks place (block_in (s.blocks place).life states.Free)))
          ∙ (ap (λ p. (replaced s.blocks place (block_in (s.blocks place).life states.Free) p).state) e ∙ is) in
          absurd (cc (known))
      none_left place other only (inr ne) is =
          ne (sym (only other (ap (λ (b : Block). b.state)
          (sym (replaced_other s.blocks place (block_in (s.blocks place).life states.Free) other ne)) ∙ is)))

  -- EACH ROW

  pub free_makes : (at : FreeAt) (old : ℕ) → old ≡ answer_on words (free_op lim at) → Links at
      → Makes setting t words s (free_op lim at) (free_event at old)
      (changed setting s t (free_event at old))
      (moved_from_free lim (thread at) (freed_address at) (free_next at old))
  free_makes (LoadPage address) old is l =
      subst (λ n. Makes setting t words s (free_op lim (LoadPage address)) (free_event (LoadPage address) n)
      (changed setting s t (free_event (LoadPage address) n))
      (moved_from_free lim (thread (LoadPage address)) address (free_next (LoadPage address) n))) (sym is)
      (load_start_by address (start_seen address (page_number address)) refl l)
  free_makes (LoadBlock address place) old is l =
      subst (λ n. Makes setting t words s (free_op lim (LoadBlock address place))
      (free_event (LoadBlock address place) n) (changed setting s t (free_event (LoadBlock address place) n))
      (moved_from_free lim (thread (LoadBlock address place)) address (free_next (LoadBlock address place) n)))
      (sym is)
      (load_life_by address place (life_seen (block_number place)) (sees_life (block_number place)) l)
  free_makes (SwapBlock address place life) old is l =
      subst (λ n. Makes setting t words s (free_op lim (SwapBlock address place life))
      (free_event (SwapBlock address place life) n)
      (changed setting s t (free_event (SwapBlock address place life) n))
      (moved_from_free lim (thread (SwapBlock address place life)) address
      (free_next (SwapBlock address place life) n))) (sym is)
      (swap_life_by address place life (life_seen (block_number place)) refl (sees_life (block_number place)) l)
  free_makes (StoreFree place life) old is l = end_free_makes place life l
