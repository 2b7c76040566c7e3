-- The names of cells.
use Rattle.std.proofs.Common.{◌≡◌, List, [], ◌∷◌, ◌++◌, map, refl, ap, sym, ◌∙◌, append_assoc}
use Rattle.std.specs.Prelude.{flat_map}
use Rattle.ds_ast.specs.declared.name.Name.{Name}
use Rattle.ds_ast.specs.declared.instr.Instr.{Instr}
use Rattle.ds_ast.specs.declared.module.Function.{Function}
use Rattle.ds_ast.specs.declared.module.Param.{Param}
use Rattle.ds_ast.specs.declared.module.Block.{Block}
use Rattle.ds_code.specs.Cells.{name_past, cells_for}
use Rattle.ds_lower.specs.Known.{names_past}

flat_append : (g : Instr → List Name) (xs ys : List Instr) → flat_map g (xs ++ ys) ≡ flat_map g xs ++ flat_map g ys
flat_append g [] ys = refl
flat_append g (x ∷ xs) ys =
    ap (λ zs. g x ++ zs) (flat_append g xs ys) ∙ sym (append_assoc (g x) (flat_map g xs) (flat_map g ys))

flat_flat : (g : Instr → List Name) (bs : List Block)
    → flat_map (λ (b : Block). flat_map g b.code) bs ≡ flat_map g (flat_map (λ (b : Block). b.code) bs)
flat_flat g [] = refl
flat_flat g (b ∷ bs) =
    ap (λ zs. flat_map g b.code ++ zs) (flat_flat g bs)
    ∙ sym (flat_append g b.code (flat_map (λ (c : Block). c.code) bs))

pub firsts_same : (f : Function) (params : List Param) (blocks : List Block) (new old : List Name) → params ≡ f.params
    → blocks ≡ f.blocks → old ≡ map (λ (p : Param). p.name) params → new ≡ old ++ names_past 0 blocks
    → new ≡ (cells_for f).firsts
firsts_same f params blocks new old p b before e =
    e ∙ ap (λ zs. zs ++ names_past 0 blocks) (before ∙ ap (λ ps. map (λ (p : Param). p.name) ps) p)
    ∙ ap (λ bs. map (λ (p : Param). p.name) f.params ++ names_past 0 bs) b
    ∙ ap (λ zs. map (λ (p : Param). p.name) f.params ++ zs) (flat_flat (name_past 0) f.blocks)

pub seconds_same : (f : Function) (blocks : List Block) (new old : List Name) → blocks ≡ f.blocks → old ≡ []
    → new ≡ old ++ names_past 1 blocks → new ≡ (cells_for f).seconds
seconds_same f blocks new old b before e =
    e ∙ ap (λ zs. zs ++ names_past 1 blocks) before ∙ ap (λ bs. names_past 1 bs) b ∙ flat_flat (name_past 1) f.blocks
