-- A step by cells does what the step by names does, and so do all.
use Rattle.std.proofs.Common.{◌≡◌, ℕ, ◌+◌, ◌-◌, List, map, Option, Some, None, slice_get}
use Rattle.std.proofs.Common.{refl, ap, sym, ◌∙◌, subst, arith}
use Rattle.std.specs.Option.{option_map}
use Rattle.std.proofs.lemmas.Option.{slice_get-map}
use Rattle.ds_ast.specs.declared.instr.Instr.{Instr}
use Rattle.ds_ast.specs.declared.module.Function.{Function}
use Rattle.ds_ast.specs.declared.module.Block.{Block}
use Rattle.ds_shape.specs.Sizes.{◌>>=◌}
use Rattle.ds_meaning.specs.Frames.{Frame, Caller, State, Runs, Notes, TooLarge, blocks_in, block_among, instruction_of}
use Rattle.ds_meaning.specs.Places.{counted_to, place_at}
use Rattle.ds_meaning.specs.Meaning as meaning
use Rattle.ds_code.specs.declared.functions.CodeFunction.{CodeFunction}
use Rattle.ds_code.specs.Machine.{Machine, code_in, at_hand}
use Rattle.ds_code.specs.CodeMeaning as code
use Rattle.ds_code.specs.Lowering.{lowered_blocks, lowered_function, lowered_instr}
use Rattle.ds_code_laws.proofs.Simulated.{Agree}
use Rattle.ds_code_laws.proofs.Copied.{through}
use Rattle.ds_code_laws.proofs.Found.{block_found, code_found}
use Rattle.ds_code_laws.proofs.Celled.{placed, parted}
use Rattle.ds_code_laws.proofs.Related.{Standing, Related}
use Rattle.ds_code_laws.proofs.Acts.{Lowered, ctx, run, act_agrees}

module _ (l : Lowered) (fr : Frame) (below : List Caller) (q : Machine) (st : Standing l.m fr below q) where
  abbrev f : Function
  f = st.frame.f

  -- the number of the instruction at hand
  abbrev number : ℕ
  number = counted_to l.m f.blocks fr.block fr.index - 1

  -- the code of the frame's function
  code_is : code_in (slice_get l.code.functions q.function) ≡ lowered_blocks l.m f 0 f.blocks
  code_is =
      ap (λ (fs : List CodeFunction). code_in (slice_get fs q.function)) l.functions
      ∙ ap (λ n. code_in (slice_get (map (lowered_function l.m) l.m.functions) n)) st.frame.same
      ∙ ap code_in (slice_get-map (lowered_function l.m) l.m.functions fr.function)
      ∙ ap (λ o. code_in (option_map (lowered_function l.m) o)) st.frame.is

  place_is : place_at l.m fr ≡ record { function = q.function; instruction = number }
  place_is =
      ap (λ (o : Option Function).
      record { function = fr.function; instruction = counted_to l.m (blocks_in o) fr.block fr.index - 1 }) st.frame.is
      ∙ ap (λ (n : ℕ). record { function = n; instruction = number }) (sym st.frame.same)

  runs_agree : Agree (Related l.m) (meaning.act_at (ctx l) fr below (instruction_of l.m fr)) (code.step (run l) q)
  runs_agree =
      subst (λ o. Agree (Related l.m) (meaning.act_at (ctx l) fr below (block_among (blocks_in o) fr.block
      >>= (λ (b : Block). slice_get b.code fr.index))) (code.step (run l) q)) (sym st.frame.is)
      (by_instr (block_among f.blocks fr.block >>= (λ (b : Block). slice_get b.code fr.index)) refl)
    where
      by_instr : (o : Option Instr)
          → (block_among f.blocks fr.block >>= (λ (b : Block). slice_get b.code fr.index)) ≡ o
          → Agree (Related l.m) (meaning.act_at (ctx l) fr below o) (code.step (run l) q)
      by_instr None e = tt
      by_instr (Some i) e =
          let a = through (block_among f.blocks fr.block) (λ (b : Block). slice_get b.code fr.index) i e in
          let n = block_found f.blocks fr.block a.0 a.1 in
          let zero_more : 0 + counted_to l.m f.blocks fr.block fr.index
          ≡ counted_to l.m f.blocks fr.block fr.index = omega arith in
          let found : at_hand (run l) q ≡ Some (lowered_instr l.m f fr.block number i) =
          ap (λ is. slice_get is q.at) code_is
          ∙ ap (λ k. slice_get (lowered_blocks l.m f 0 f.blocks) k) (st.frame.there n.number n.is)
          ∙ code_found l.m f 0 f.blocks fr.block n.number fr.index a.0 i n.is n.stands a.2
          ∙ ap (λ k. Some (lowered_instr l.m f fr.block (k - 1) i)) zero_more in
          subst (λ o. Agree (Related l.m) (meaning.act_at (ctx l) fr below (Some i)) (code.act_at (run l) q o)) (sym
          found)
          (act_agrees l fr below q st number i (place_at l.m fr) place_is i.op
          (parted f i (placed f n.number a.0 fr.index i n.stands a.2)))

-- one instruction does the same on both sides
pub step_agrees : (l : Lowered) (s : State) (q : Machine) → Related l.m s q
    → Agree (Related l.m) (meaning.step (ctx l) s) (code.step (run l) q)
step_agrees l (Runs fr below) q st = runs_agree l fr below q st
step_agrees l (Notes at value fr below) q st = absurd st
step_agrees l (TooLarge function) q st = absurd st
