-- Where blocks begin.
use Rattle.std.proofs.Common.{◌≡◌, ℕ, zero, suc, ◌+◌, ◌<◌, List, [], ◌∷◌, length, take, get_or, refl, ap, sym}
use Rattle.std.proofs.Common.{◌∙◌}
use Rattle.std.proofs.Common.{subst, arith, length-append, map, slice_get}
use Rattle.std.specs.Prelude.{flat_map, IfSome}
use Rattle.ds_ast.specs.declared.instr.Instr.{Instr}
use Rattle.ds_ast.specs.declared.module.Function.{Function}
use Rattle.ds_ast.specs.declared.module.Block.{Block}
use Rattle.ds_shape.specs.Site.{instructions_before}
use Rattle.ds_code.specs.Lowering.{front}
use Rattle.ds_lower.specs.Known.{offsets_from}

pub offsets_long : (at : ℕ) (bs : List Block) → length (offsets_from at bs) ≡ length bs
offsets_long at [] = refl
offsets_long at (b ∷ bs) = ap suc (offsets_long (at + length b.code) bs)

-- the offset of a block is how many instructions stand before it
pub offset_there : (at : ℕ) (bs : List Block) (n d : ℕ) → n < length bs
    → get_or (offsets_from at bs) n d ≡ at + length (flat_map (λ (b : Block). b.code) (take n bs))
offset_there at [] n d lt = absurd (omega arith)
offset_there at (b ∷ bs) zero d lt = omega arith
offset_there at (b ∷ bs) (suc n) d lt =
    let all = length-append b.code (flat_map (λ (c : Block). c.code) (take n bs)) in
    let e = offset_there (at + length b.code) bs n d (omega arith) in omega arith

-- the offset of a block of a function
pub offset_in : (f g : Function) (offsets : List ℕ) (n r : ℕ) → f ≡ g → offsets ≡ offsets_from 0 f.blocks
    → n < length g.blocks → r ≡ get_or offsets n r → r ≡ instructions_before g n
offset_in f g offsets n r is begin lt read =
    let inside : n < length f.blocks = subst (λ (h : Function). n < length h.blocks) (sym is) lt in
    let e = offset_there 0 f.blocks n r inside in
    let none : 0 + instructions_before f n ≡ instructions_before f n = omega arith in
    read ∙ ap (λ (os : List ℕ). get_or os n r) begin ∙ e ∙ none ∙ ap (λ (h : Function). instructions_before h n) is

pub offset_inside : (f g : Function) (offsets : List ℕ) (n : ℕ) → f ≡ g → offsets ≡ offsets_from 0 f.blocks
    → n < length g.blocks → n < length offsets
offset_inside f g offsets n is begin lt =
    let inside : n < length f.blocks = subst (λ (h : Function). n < length h.blocks) (sym is) lt in
    let long : length offsets ≡ length f.blocks = ap (λ (os : List ℕ). length os) begin ∙ offsets_long 0 f.blocks in
    omega arith

-- the phis of a block of a function
rows_there : (rows : List (List Instr)) (bs : List Block) (n : ℕ) (r : List Instr)
    → rows ≡ map (λ (b : Block). front b.code) bs → n < length bs → r ≡ get_or rows n r
    → IfSome (slice_get bs n) (λ b. r ≡ front b.code)
rows_there rows [] n r e lt is = tt
rows_there [] (b ∷ bs) n r e lt is = absurd (cc)
rows_there (x ∷ rows) (b ∷ bs) zero r e lt is = let first : x ≡ front b.code = cc in is ∙ first
rows_there (x ∷ rows) (b ∷ bs) (suc n) r e lt is =
    let rest : rows ≡ map (λ (c : Block). front c.code) bs = cc in
    rows_there rows bs n r rest (omega arith) is

pub phis_there : (rows : List (List Instr)) (f h : Function) (n : ℕ) (r s : List Instr) → f ≡ h
    → rows ≡ map (λ (b : Block). front b.code) f.blocks → n < length h.blocks → r ≡ get_or rows n r → s ≡ r
    → IfSome (slice_get h.blocks n) (λ b. s ≡ front b.code)
phis_there rows f h n r s same e lt is told =
    subst (λ (xs : List Instr). IfSome (slice_get h.blocks n) (λ b. xs ≡ front b.code)) (sym told)
    (rows_there rows h.blocks n r (e ∙ ap (λ (k : Function). map (λ (b : Block). front b.code) k.blocks) same) lt is)
