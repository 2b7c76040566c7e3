-- The types of globals and instructions fit.
use Rattle.std.proofs.Common.{◌≡◌, ℕ, zero, suc, ◌<◌, List, [], ◌∷◌, ◌++◌, length, map}
use Rattle.std.proofs.Common.{get_or, slice_index_or, refl, ap, sym, ◌∙◌, subst, arith, append_assoc}
use Rattle.std.specs.Prelude.{All, flat_map}
use Rattle.ds_ast.specs.declared.instr.Instr.{Instr}
use Rattle.ds_ast.specs.declared.module.Module.{Module}
use Rattle.ds_ast.specs.declared.module.StructDef.{StructDef}
use Rattle.ds_ast.specs.declared.module.GlobalDef.{GlobalDef}
use Rattle.ds_ast.specs.declared.module.Function.{Function}
use Rattle.ds_ast.specs.declared.module.Block.{Block}
use Rattle.ds_shape.specs.Accepted.{HasLayout}
use Rattle.ds_shape.specs.Fits.{Fits}
use Rattle.ds_shape.specs.Laws.{WrittenTypesFit}
use Rattle.ds_shape.specs.Types.{Stands}
use Rattle.ds_shape.specs.Written.{struct_line, global_line, function_line, types_of_op}
use Rattle.ds_lower.specs.Known.{AllFit}

right : {A : Type 0} (x : A) (xs ys : List A) → Stands x ys → Stands x (xs ++ ys)
right x xs ys s = (xs ++ s.0, s.1, ap (λ zs. xs ++ zs) s.2 ∙ sym (append_assoc xs s.0 (x ∷ s.1)))

left : {A : Type 0} (x : A) (xs ys : List A) → Stands x xs → Stands x (xs ++ ys)
left x xs ys s = (s.0, s.1 ++ ys, ap (λ zs. zs ++ ys) s.2 ∙ append_assoc s.0 (x ∷ s.1) ys)

mapped : {A B : Type 0} (g : A → B) (xs : List A) (n : ℕ) (d : A) → n < length xs
    → Stands (g (slice_index_or xs n d)) (map g xs)
mapped g [] n d lt = absurd (omega arith)
mapped g (x ∷ xs) zero d lt = ([], map g xs, refl)
mapped g (x ∷ xs) (suc n) d lt = let s = mapped g xs n d (omega arith) in (g x ∷ s.0, s.1, ap (λ zs. g x ∷ zs) s.2)

flat : {A B : Type 0} (g : A → List B) (xs : List A) (n : ℕ) (d : A) (y : B) → n < length xs
    → Stands y (g (slice_index_or xs n d)) → Stands y (flat_map g xs)
flat g [] n d y lt s = absurd (omega arith)
flat g (x ∷ xs) zero d y lt s = left y (g x) (flat_map g xs) s
flat g (x ∷ xs) (suc n) d y lt s = right y (g x) (flat_map g xs) (flat g xs n d y (omega arith) s)

at_index : {A : Type 0} (xs : List A) (n : ℕ) (d : A) → n < length xs → Stands (slice_index_or xs n d) xs
at_index [] n d lt = absurd (omega arith)
at_index (x ∷ xs) zero d lt = ([], xs, refl)
at_index (x ∷ xs) (suc n) d lt = let s = at_index xs n d (omega arith) in (x ∷ s.0, s.1, ap (λ zs. x ∷ zs) s.2)

-- the type of a global fits
pub global_fits : (m : Module) (structs : List StructDef) (gs : List GlobalDef) (n : ℕ) (d : GlobalDef)
    → WrittenTypesFit
    → HasLayout m → structs ≡ m.structs → gs ≡ m.globals → n < length gs → Fits structs (slice_index_or gs n d).ty
global_fits m structs gs n d law layout same are lt =
    let there : n < length m.globals = subst (λ (xs : List GlobalDef). n < length xs) are lt in
    let line = left (global_line (slice_index_or m.globals n d)) (map struct_line m.structs ++ map global_line
    m.globals)
    (map function_line m.functions) (right (global_line (slice_index_or m.globals n d)) (map struct_line m.structs)
    (map global_line m.globals) (mapped global_line m.globals n d there)) in
    let fits = law m (global_line (slice_index_or m.globals n d)) (slice_index_or m.globals n d).ty layout line
    ([], [], refl) in
    subst (λ (ss : List StructDef). Fits ss (slice_index_or gs n d).ty) (sym same)
    (subst (λ (xs : List GlobalDef). Fits m.structs (slice_index_or xs n d).ty) (sym are) fits)

-- the types of all instructions fit
pub all_fit : (m : Module) → WrittenTypesFit → HasLayout m
    → All (λ (f : Function). All (λ (b : Block). AllFit m.structs b.code) f.blocks) m.functions
all_fit m law layout = λ n f in_module j b in_function k i in_block q t in_op.
    let g = slice_index_or m.functions n f in
    let line = right (function_line g) (map struct_line m.structs ++ map global_line m.globals)
    (map function_line m.functions) (mapped function_line m.functions n f in_module) in
    let types = types_of_op (slice_index_or (slice_index_or g.blocks j b).code k i).op in
    let one = at_index types q t in_op in
    let op = flat (λ (x : Instr). types_of_op x.op) (slice_index_or g.blocks j b).code k i (slice_index_or types q t)
    in_block one in
    let block = flat (λ (c : Block). flat_map (λ (x : Instr). types_of_op x.op) c.code) g.blocks j b
    (slice_index_or types q t) in_function op in
    law m (function_line g) (slice_index_or types q t) layout line
    (right (slice_index_or types q t) (g.result ∷ []) _ block)

-- an item has what all have
pub item_has : {A : Type 0} (P : A → Type 0) (xs : List A) (n : ℕ) (x : A) → All P xs → n < length xs
    → x ≡ get_or xs n x → P x
item_has P xs n x all lt is = subst P (sym is) (all n x lt)
