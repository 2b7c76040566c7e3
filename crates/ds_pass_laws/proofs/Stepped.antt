-- A step of the module with its notes, and how its threads behave.
use Rattle.std.proofs.Common.{◌≡◌, ℕ, suc, ◌+◌, ◌-◌, Bool, true, false, if◌then◌else◌, List, [], ◌∷◌}
use Rattle.std.proofs.Common.{map, take, Option, Some, None, slice_get, refl, ap, sym, ◌∙◌, subst}
use Rattle.std.specs.Option.{option_map}
use Rattle.ds_ast.specs.declared.name.Name.{Name}
use Rattle.ds_ast.specs.declared.value.Value.{Value}
use Rattle.ds_ast.specs.declared.instr.Instr.{Instr}
use Rattle.ds_ast.specs.declared.module.Module.{Module}
use Rattle.ds_ast.specs.declared.module.Function.{Function}
use Rattle.ds_ast.specs.declared.module.Block.{Block}
use Rattle.ds_ast.specs.Bounds.{is_name}
use Rattle.ds_map.specs.Bounds.{Bounds}
use Rattle.ds_plain.specs.declared.Place.{Place}
use Rattle.ds_shape.specs.Sizes.{◌>>=◌}
use Rattle.ds_meaning.specs.Frames.{Frame, Caller, State, Runs, Notes, TooLarge, block_labelled, block_among, blocks_in}
use Rattle.ds_meaning.specs.Frames.{instruction_of}
use Rattle.ds_meaning.specs.Places.{counted, counted_to, place_at}
use Rattle.ds_meaning.specs.Callees.{callee_of}
use Rattle.ds_meaning.specs.Calls.{calls}
use Rattle.ds_meaning.specs.Meaning.{act, act_at, step}
use Rattle.ds_meaning.specs.Program.{context}
use Rattle.ds_code_laws.proofs.Simulated.{Agree}
use Rattle.ds_pass.specs.Noted.{note_name, note, notes_behind, noted_block, noted, pointer}
use Rattle.ds_pass_laws.proofs.Shifted.{with_notes, past, shifted, stands_shifted, note_stands, next_shifted, NoNotes}
use Rattle.ds_pass_laws.proofs.Shifted.{counted_noted, counted_shifted, counted_note, counted_all, counted_take}
use Rattle.ds_pass_laws.proofs.Shifted.{block_noted}
use Rattle.ds_pass_laws.proofs.Called.{blocks_noted, notes_are, note_callee}
use Rattle.ds_pass_laws.proofs.Passed.{code_in, code_at, moved, all_moved, IsThere, AllThere, Follows, AreQuiet}
use Rattle.ds_pass_laws.proofs.Passed.{IsQuiet}
use Rattle.ds_pass_laws.proofs.Passed.{act_both, notes_both}

-- THE NUMBER OF AN INSTRUCTION

module _ (m : Module) (quiet : IsQuiet m) where
  -- an instruction among the notes has the number that it has without them
  number_noted : (bs : List Block) (label : Name) (j k : ℕ) (b : Block) → AreQuiet m bs
      → block_among bs label ≡ Some b
      → (NoNotes m b.code → NoNotes (noted m) b.code → counted (noted m) (take (suc j) (with_notes b.code))
      ≡ counted m (take (suc k) b.code))
      → counted_to (noted m) (map noted_block bs) label j ≡ counted_to m bs label k
  number_noted [] label j k b silent e same = refl
  number_noted (x ∷ bs) label j k b silent e same =
      by_test (λ f. number_noted bs label j k b silent.2 f same) (is_name x.name label) e
    where
      by_test : (block_among bs label ≡ Some b
          → counted_to (noted m) (map noted_block bs) label j ≡ counted_to m bs label k) → (t : Bool)
          → (if t then Some x else block_among bs label) ≡ Some b
          → (if t then counted (noted m) (take (suc j) (with_notes x.code))
          else counted (noted m) (with_notes x.code) + counted_to (noted m) (map noted_block bs) label j)
          ≡ (if t then counted m (take (suc k) x.code) else counted m x.code + counted_to m bs label k)
      by_test rec true f =
          let one : b ≡ x = cc in
          subst (λ (u : Block). (NoNotes m u.code → NoNotes (noted m) u.code
          → counted (noted m) (take (suc j) (with_notes u.code)) ≡ counted m (take (suc k) u.code))) one same
          silent.0 silent.1
      by_test rec false f =
          ap (λ n. n + counted_to (noted m) (map noted_block bs) label j)
          (counted_noted (noted m) (notes_are m quiet.unnamed) x.code silent.1 ∙ sym (counted_all m x.code silent.0))
          ∙ ap (λ n. counted m x.code + n) (rec f)

  -- the instruction that stands at this place among the notes, and the number there
  record StandsThere (fr : Frame) (j : ℕ) (i : Instr) : Type 0 where
    hand : instruction_of (noted m) (record fr { index = j }) ≡ Some i
    place : place_at (noted m) (record fr { index = j }) ≡ place_at m fr

  stands_there : (fr : Frame) (j : ℕ) (i : Instr) (b : Block) → block_labelled m fr.function fr.block ≡ Some b
      → slice_get (with_notes b.code) j ≡ Some i
      → (NoNotes m b.code → NoNotes (noted m) b.code → counted (noted m) (take (suc j) (with_notes b.code))
      ≡ counted m (take (suc fr.index) b.code))
      → StandsThere fr j i
  stands_there fr j i b is at number = record {
    hand =
        ap (λ (bs : List Block). block_among bs fr.block >>= (λ (b : Block). slice_get b.code j))
        (blocks_noted m fr.function)
        ∙ ap (λ (o : Option Block). o >>= (λ (b : Block). slice_get b.code j))
        (block_noted (blocks_in (slice_get m.functions fr.function)) fr.block
        ∙ ap (λ o. option_map noted_block o) is)
        ∙ at;
    place =
        ap (λ (bs : List Block). record {
          function = fr.function;
          instruction = counted_to (noted m) bs fr.block j - 1;
        }) (blocks_noted m fr.function)
        ∙ ap (λ (n : ℕ). record { function = fr.function; instruction = n - 1 })
        (by_function (slice_get m.functions fr.function) refl is);
  }
    where
      by_function : (o : Option Function) → slice_get m.functions fr.function ≡ o
          → block_among (blocks_in o) fr.block ≡ Some b
          → counted_to (noted m) (map noted_block (blocks_in o)) fr.block j
          ≡ counted_to m (blocks_in o) fr.block fr.index
      by_function None e f = refl
      by_function (Some g) e f =
          number_noted g.blocks fr.block j fr.index b (quiet.uncalled fr.function g e) f number

-- THE BLOCK AT HAND

record AtHand (m : Module) (fr : Frame) (i : Instr) : Type 0 where
  block : Block
  is : block_labelled m fr.function fr.block ≡ Some block
  stands : slice_get block.code fr.index ≡ Some i
  there : slice_get (code_at m fr) fr.index ≡ Some i
  known : IsThere m fr

known_by : (m : Module) (fr : Frame) (b : Block) → block_labelled m fr.function fr.block ≡ Some b → IsThere m fr
known_by m fr b e = by_function (slice_get m.functions fr.function) refl e
  where
    by_function : (o : Option Function) → slice_get m.functions fr.function ≡ o
        → block_among (blocks_in o) fr.block ≡ Some b → IsThere m fr
    by_function None f g = absurd (cc)
    by_function (Some x) f g = (x, f)

-- the instruction at hand stands in a block of the frame's function
at_hand : (m : Module) (fr : Frame) (i : Instr) → instruction_of m fr ≡ Some i → AtHand m fr i
at_hand m fr i e = by_block (block_labelled m fr.function fr.block) refl e
  where
    by_block : (o : Option Block) → block_labelled m fr.function fr.block ≡ o
        → (o >>= (λ (b : Block). slice_get b.code fr.index)) ≡ Some i → AtHand m fr i
    by_block None f g = absurd (cc)
    by_block (Some b) f g = record {
      block = b;
      is = f;
      stands = g;
      there = ap (λ o. slice_get (code_in o) fr.index) f ∙ g;
      known = known_by m fr b f;
    }

-- the same where its code is known
in_code : (m : Module) (fr : Frame) (i : Instr) → slice_get (code_at m fr) fr.index ≡ Some i → AtHand m fr i
in_code m fr i e = by_block (block_labelled m fr.function fr.block) refl e
  where
    by_block : (o : Option Block) → block_labelled m fr.function fr.block ≡ o
        → slice_get (code_in o) fr.index ≡ Some i → AtHand m fr i
    by_block None f g = absurd (cc)
    by_block (Some b) f g = record { block = b; is = f; stands = g; there = e; known = known_by m fr b f }

-- STEPS

module _ (m : Module) (quiet : IsQuiet m) (lim : Bounds) (thread : ℕ) where
  runs_both : (fr : Frame) (below : List Caller) → AllThere m below
      → Agree (Follows m) (step (context true lim m thread) (Runs fr below))
      (step (context false lim (noted m) thread) (Runs (moved m fr) (all_moved m below)))
  runs_both fr below there = by_instr (instruction_of m fr) refl
    where
      by_instr : (o : Option Instr) → instruction_of m fr ≡ o
          → Agree (Follows m) (act_at (context true lim m thread) fr below o)
          (step (context false lim (noted m) thread) (Runs (moved m fr) (all_moved m below)))
      by_instr None e = tt
      by_instr (Some i) e =
          let at = at_hand m fr i e in
          let code : code_at m fr ≡ at.block.code = ap code_in at.is in
          let j = shifted (code_at m fr) fr.index in
          let far = stands_there m quiet fr j i at.block at.is
          (ap (λ (is : List Instr). slice_get (with_notes at.block.code) (shifted is fr.index)) code
          ∙ stands_shifted at.block.code fr.index i at.stands)
          (λ none none'. ap (λ (is : List Instr). counted (noted m) (take (suc (shifted is fr.index))
          (with_notes at.block.code))) code
          ∙ counted_shifted (noted m) (notes_are m quiet.unnamed) at.block.code fr.index i none' at.stands
          ∙ sym (counted_take m at.block.code fr.index i none at.stands)) in
          subst (λ o. Agree (Follows m) (act_at (context true lim m thread) fr below (Some i))
          (act_at (context false lim (noted m) thread) (moved m fr) (all_moved m below) o)) (sym far.hand)
          (subst (λ (p : Place). Agree (Follows m) (act_at (context true lim m thread) fr below (Some i))
          (act (context false lim (noted m) thread)
          (record { frame = moved m fr; below = all_moved m below; gives = i.result; place = p }) i.op)) (sym far.place)
          (act_both m lim thread quiet
          (record { frame = fr; below = below; gives = i.result; place = place_at m fr }) i at.there there at.known
          i.op refl))

  notes_step : (at value : Value) (fr : Frame) (below : List Caller) → AllThere m below → (i : Instr)
      → slice_get (code_at m fr) fr.index ≡ Some i → notes_behind i.op ≡ note at value ∷ []
      → Agree (Follows m) (step (context true lim m thread) (Notes at value fr below))
      (step (context false lim (noted m) thread)
      (Runs (record (moved m fr) { index = suc (shifted (code_at m fr) fr.index) }) (all_moved m below)))
  notes_step at value fr below there i stands e =
      let hand = in_code m fr i stands in
      let code : code_at m fr ≡ hand.block.code = ap code_in hand.is in
      let j = shifted (code_at m fr) fr.index in
      let far = stands_there m quiet fr (suc j) (note at value) hand.block hand.is
      (ap (λ (is : List Instr). slice_get (with_notes hand.block.code) (suc (shifted is fr.index))) code
      ∙ note_stands hand.block.code fr.index i (note at value) hand.stands e)
      (λ none none'. ap (λ (is : List Instr). counted (noted m) (take (suc (suc (shifted is fr.index)))
      (with_notes hand.block.code))) code
      ∙ counted_note (noted m) (notes_are m quiet.unnamed) hand.block.code fr.index i (note at value) none'
      hand.stands e
      ∙ sym (counted_take m hand.block.code fr.index i none hand.stands)) in
      let next : shifted (code_at m fr) (suc fr.index) ≡ suc (suc j) =
      next_shifted (code_at m fr) fr.index i stands ∙ ap (λ (notes : List Instr). suc (past notes j)) e in
      let follows : Follows m (Runs (record fr { index = suc fr.index }) below)
      (Runs (record fr { index = suc (suc j) }) (all_moved m below)) =
      (there, ap (λ (n : ℕ). Runs (record fr { index = n }) (all_moved m below)) (sym next)) in
      subst (λ o. Agree (Follows m) (step (context true lim m thread) (Notes at value fr below))
      (act_at (context false lim (noted m) thread) (record fr { index = suc j }) (all_moved m below) o)) (sym far.hand)
      (subst (λ (p : Place). Agree (Follows m) (step (context true lim m thread) (Notes at value fr below))
      (calls (context false lim (noted m) thread)
      (record { frame = record fr { index = suc j }; below = all_moved m below; gives = None; place = p })
      (pointer at ∷ pointer value ∷ []) (callee_of (noted m) note_name))) (sym far.place)
      (subst (λ callee. Agree (Follows m) (step (context true lim m thread) (Notes at value fr below))
      (calls (context false lim (noted m) thread)
      (record { frame = record fr { index = suc j }; below = all_moved m below; gives = None; place = place_at m fr })
      (pointer at ∷ pointer value ∷ []) callee)) (sym (note_callee m quiet.unnamed))
      (notes_both m lim thread (record { frame = fr; below = below; gives = None; place = place_at m fr }) (suc j)
      (all_moved m below) at value follows)))

  pub step_both : (s t : State) → Follows m s t
      → Agree (Follows m) (step (context true lim m thread) s) (step (context false lim (noted m) thread) t)
  step_both (Runs fr below) t is =
      subst (λ u. Agree (Follows m) (step (context true lim m thread) (Runs fr below))
      (step (context false lim (noted m) thread) u)) (sym is.1) (runs_both fr below is.0)
  step_both (Notes at value fr below) t is =
      subst (λ u. Agree (Follows m) (step (context true lim m thread) (Notes at value fr below))
      (step (context false lim (noted m) thread) u)) (sym is.1)
      (notes_step at value fr below is.0 is.2 is.3 is.4)
  step_both (TooLarge function) t is =
      subst (λ u. Agree (Follows m) (step (context true lim m thread) (TooLarge function))
      (step (context false lim (noted m) thread) u)) (sym is) (refl, refl)
