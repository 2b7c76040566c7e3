-- The placed instructions of a function are numbered from 0 on, and there are as many as it has instructions.
use Rattle.std.proofs.Common.{◌≡◌, ◌<◌, ◌≤◌, ◌+◌, ◌-◌, ◌^◌, ◌++◌, ℕ, zero, suc, List, [], ◌∷◌, length, slice_index_or}
use Rattle.std.proofs.Common.{refl, sym, ap, ◌∙◌, subst, inl, inr, arith}
use Rattle.std.specs.Prelude.{All, flat_map}
use Rattle.std.proofs.lemmas.List.{length-append, get_or_append_left}
use Rattle.std.proofs.Math.Seq.{get_or-append_right}
use Rattle.std.proofs.lemmas.Bool.Decides.{leb_tells}
use Rattle.std.proofs.lemmas.List.Elements.{All-head, All-tail}
use Rattle.ds_ast.specs.declared.instr.Instr.{Instr}
use Rattle.ds_ast.specs.declared.module.Module.{Module}
use Rattle.ds_ast.specs.declared.module.Function.{Function}
use Rattle.ds_ast.specs.declared.module.Block.{Block}
use Rattle.ds_ast.specs.Bounds.{Bounds, IsFunction, IsEnded}
use Rattle.ds_shape.specs.Types.{Stands, instructions_of}
use Rattle.ds_shape.specs.Placed.{Placed, placed_in, placed_from, placed_of}
use Rattle.ds_shape.specs.Breaches.{each_standing}

many_in : (n : ℕ) (b : Block) (front code : List Instr) → length (placed_in n b front code) ≡ length code
many_in n b front [] = refl
many_in n b front (i ∷ code) = ap suc (many_in (suc n) b (front ++ i ∷ []) code)

many_from : (n : ℕ) (bs : List Block) → length (placed_from n bs) ≡ length (flat_map (λ (b : Block). b.code) bs)
many_from n [] = refl
many_from n (b ∷ bs) =
    length-append (placed_in n b [] b.code) (placed_from (n + length b.code) bs)
    ∙ ap (λ k. k + length (placed_from (n + length b.code) bs)) (many_in n b [] b.code)
    ∙ ap (λ k. length b.code + k) (many_from (n + length b.code) bs)
    ∙ sym (length-append b.code (flat_map (λ (c : Block). c.code) bs))

pub many_placed : (f : Function) → length (placed_of f) ≡ length (instructions_of f)
many_placed f = many_from 0 f.blocks

numbered_in : (n : ℕ) (b : Block) (front code : List Instr) (i : ℕ) (p : Placed)
    → i < length (placed_in n b front code) → (slice_index_or (placed_in n b front code) i p).number ≡ n + i
numbered_in n b front [] i p h = absurd (omega (arith, h))
numbered_in n b front (j ∷ code) zero p h = omega arith
numbered_in n b front (j ∷ code) (suc i) p h =
    let e : suc n + i ≡ n + suc i = omega arith in numbered_in (suc n) b (front ++ j ∷ []) code i p (omega (arith, h))
    ∙ e

numbered_from : (n : ℕ) (bs : List Block) (i : ℕ) (p : Placed) → i < length (placed_from n bs)
    → (slice_index_or (placed_from n bs) i p).number ≡ n + i
numbered_from n [] i p h = absurd (omega (arith, h))
numbered_from n (b ∷ bs) i p h =
    let here = placed_in n b [] b.code in
    let rest = placed_from (n + length b.code) bs in
    let many : length here ≡ length b.code = many_in n b [] b.code in
    let all : length (here ++ rest) ≡ length here + length rest = length-append here rest in
    elim (leb_tells (length here) i) [
      | inl past ↦
          let behind : length here ≤ i = past.1 in
          let k : i - length here < length rest = omega (arith, h, all, behind) in
          let e : (n + length b.code) + (i - length here) ≡ n + i = omega (arith, many, behind) in
          ap (λ (q : Placed). q.number) (get_or-append_right here rest i p behind)
          ∙ numbered_from (n + length b.code) bs (i - length here) p k ∙ e
      | inr within ↦
          ap (λ (q : Placed). q.number) (get_or_append_left here rest p i within.1)
          ∙ numbered_in n b [] b.code i p within.1
    ]

-- the instruction at a place has its number
pub numbered : (f : Function) (i : ℕ) (p : Placed) → i < length (placed_of f)
    → (slice_index_or (placed_of f) i p).number ≡ i
numbered f i p h = let e : 0 + i ≡ i = omega arith in numbered_from 0 f.blocks i p h ∙ e

-- a function has no more instructions than all together
pub fewer : (fs : List Function) (f : Function) → Stands f fs
    → length (instructions_of f) ≤ length (flat_map instructions_of fs)
fewer [] f ([], after, is) = absurd cc
fewer [] f (g ∷ before, after, is) = absurd cc
fewer (g ∷ fs) f ([], after, is) =
    let e : g ≡ f = cc in
    let l : length (instructions_of g ++ flat_map instructions_of fs) ≡ length (instructions_of g) + length
    (flat_map instructions_of fs) = length-append (instructions_of g) (flat_map instructions_of fs) in
    subst (λ x. length (instructions_of x) ≤ length (flat_map instructions_of (g ∷ fs))) e (omega (arith, l))
fewer (g ∷ fs) f (x ∷ before, after, is) =
    let rest : fs ≡ before ++ f ∷ after = cc in
    let h : length (instructions_of f) ≤ length (flat_map instructions_of fs) = fewer fs f (before, after, rest) in
    let l : length (instructions_of g ++ flat_map instructions_of fs) ≡ length (instructions_of g) + length
    (flat_map instructions_of fs) = length-append (instructions_of g) (flat_map instructions_of fs) in
    omega (arith, h, l)

-- nor more blocks than instructions, where each block has one
pub few_blocks : (bs : List Block) → All (λ (b : Block). b.code ≡ [] → ⊥) bs
    → length bs ≤ length (flat_map (λ (b : Block). b.code) bs)
few_blocks [] all = omega arith
few_blocks (b ∷ bs) all =
    let rest : length bs ≤ length (flat_map (λ (c : Block). c.code) bs) =
    few_blocks bs (All-tail (λ (c : Block). c.code ≡ [] → ⊥) b bs all) in
    let l : length (b.code ++ flat_map (λ (c : Block). c.code) bs) ≡ length b.code + length
    (flat_map (λ (c : Block). c.code) bs) = length-append b.code (flat_map (λ (c : Block). c.code) bs) in
    let one : 1 ≤ length b.code = some_item b.code (All-head (λ (c : Block). c.code ≡ [] → ⊥) b bs all) in
    omega (arith, rest, l, one)
  where
    some_item : (code : List Instr) → (code ≡ [] → ⊥) → 1 ≤ length code
    some_item [] none = absurd (none refl)
    some_item (i ∷ code) none = omega arith

-- FEW INSTRUCTIONS

not_ended : (code : List Instr) → IsEnded code → code ≡ [] → ⊥
not_ended [] ended is = ended
not_ended (i ∷ code) ended is = absurd cc

-- where a module has few instructions, its functions have few blocks and instructions
pub few_of : (m : Module) (f : Function) → Bounds m → Stands f m.functions
    → length (flat_map instructions_of m.functions) ≤ 200000
    → (length f.blocks < 2 ^ 32) × (length (placed_of f) < 2 ^ 32)
few_of m f bounds stands few =
    let within : length (instructions_of f) ≤ length (flat_map instructions_of m.functions) =
    fewer m.functions f stands in
    let placed : length (placed_of f) ≡ length (instructions_of f) = many_placed f in
    let whole = each_standing IsFunction m.functions bounds.functions f stands in
    let blocks : length f.blocks ≤ length (instructions_of f) =
    few_blocks f.blocks (λ k d h. not_ended (slice_index_or f.blocks k d).code (whole.blocks k d h).ended) in
    (omega (arith, within, few, blocks), omega (arith, within, few, placed))
