-- A function is good exactly if its instructions, each with its place, keep all rules.
use Rattle.std.proofs.Common.{◌≡◌, ◌+◌, ◌++◌, ℕ, List, [], ◌∷◌, length, refl}
use Rattle.std.specs.Prelude.{All}
use Rattle.std.proofs.lemmas.List.Elements.{All-head}
use Rattle.ds_ast.specs.declared.instr.Instr.{Instr}
use Rattle.ds_ast.specs.declared.module.Module.{Module}
use Rattle.ds_ast.specs.declared.module.Function.{Function}
use Rattle.ds_ast.specs.declared.module.Block.{Block}
use Rattle.ds_ast.specs.Bounds.{Bounds, IsBlock, IsEnded, IsFunction}
use Rattle.ds_shape.specs.Types.{Stands}
use Rattle.ds_shape.specs.Placed.{Placed, placed_in, placed_from, placed_of, KeepsAssigned, GivesRegister}
use Rattle.ds_shape.specs.Accepted.{IsGoodFunction}
use Rattle.ds_check.specs.Fault.{KeepsAll, HasLabels}
use Rattle.ds_shape.specs.Breaches.{each_standing}

-- THE FIRST INSTRUCTION

abbrev first : Block → Instr → Placed
first b i = record { number = 0; block = b; front = []; instr = i }

module _ (G : Type 0) (P : Placed → Type 0) (gives : (p : Placed) → P p → p.number ≡ 0 → G) where
  first_in : (b : Block) (code : List Instr) (rest : List Placed) → All P (placed_in 0 b [] code ++ rest)
      → IsEnded code → G
  first_in b [] rest all ended = absurd ended
  first_in b (c ∷ code) rest all ended =
      gives (first b c) (All-head P (first b c) (placed_in 1 b (c ∷ []) code ++ rest) all) refl

  -- what the first instruction answers for, where there is a block
  first_of : (blocks : List Block) → All P (placed_from 0 blocks) → All IsBlock blocks → (blocks ≡ [] → ⊥) → G
  first_of [] all bounds some = absurd (some refl)
  first_of (b ∷ blocks) all bounds some =
      first_in b b.code (placed_from (0 + length b.code) blocks) all (All-head IsBlock b blocks bounds).ended

-- FUNCTIONS

-- a function with blocks that keeps all rules is good
pub good_function : (m : Module) (f : Function) → Bounds m → Stands f m.functions → (f.blocks ≡ [] → ⊥) → HasLabels f
    → All (KeepsAll m f) (placed_of f)
    → All (KeepsAssigned f) (placed_of f) → IsGoodFunction m f
good_function m f bounds stands some labels kept assigned =
    record {
      no_twice_local = labels.no_twice_local;
      gives = first_of (GivesRegister f.result) (KeepsAll m f) (λ p keeps is. keeps.1.1 is) f.blocks kept
          (each_standing IsFunction m.functions bounds.functions f stands).blocks some;
      instructions = λ k d h.
          let keeps = kept k d h in
          record {
            no_bad_block = labels.no_bad_block k d h;
            no_undefined = keeps.0;
            no_wrong_type = keeps.1.0;
            no_bad_phi = keeps.2;
            assigned = assigned k d h;
          };
    }

-- and a good one keeps them
pub good_labels : (m : Module) (f : Function) → IsGoodFunction m f → HasLabels f
good_labels m f good =
    record { no_twice_local = good.no_twice_local; no_bad_block = λ k d h. (good.instructions k d h).no_bad_block }

pub good_keeps : (m : Module) (f : Function) → IsGoodFunction m f → All (KeepsAll m f) (placed_of f)
good_keeps m f good =
    λ k d h. let g = good.instructions k d h in (g.no_undefined, (g.no_wrong_type, λ _. good.gives), g.no_bad_phi)

pub good_paths : (m : Module) (f : Function) → IsGoodFunction m f → All (KeepsAssigned f) (placed_of f)
good_paths m f good = λ k d h. (good.instructions k d h).assigned
