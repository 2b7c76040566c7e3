-- The text of a module from those of its groups.
use Rattle.std.proofs.Common.{◌≡◌, ℕ, List, [], ◌++◌, flat_map, ap, ◌∙◌}
use Rattle.ds_lex.specs.Written.{written}
use Rattle.ds_ast.specs.declared.module.Module.{Module}
use Rattle.ds_ast.specs.declared.module.StructDef.{StructDef}
use Rattle.ds_ast.specs.declared.module.GlobalDef.{GlobalDef}
use Rattle.ds_ast.specs.declared.module.Function.{Function}
use Rattle.ds_print.specs.Canonical.{struct_pieces, global_pieces, function_pieces, module_pieces, canon}
use Rattle.ds_print.proofs.Pieces.{then}

pub whole : (m : Module) (structs lines : List StructDef) (globals : List GlobalDef) (functions : List Function)
    (none one two three : List ℕ)
    → structs ≡ m.structs → lines ≡ m.structs → globals ≡ m.globals → functions ≡ m.functions → none ≡ []
    → one ≡ none ++ written (flat_map struct_pieces structs)
    → two ≡ one ++ written (flat_map (global_pieces lines) globals)
    → three ≡ two ++ written (flat_map function_pieces functions) → three ≡ canon m
unfolding canon module_pieces
whole m structs lines globals functions none one two three s l g f n p q r =
    let written_structs = flat_map struct_pieces structs in
    let written_globals = flat_map (global_pieces lines) globals in
    then none two three (written_structs ++ written_globals) (flat_map function_pieces functions)
    (then none one two written_structs written_globals p q) r
    ∙ ap (λ (front : List ℕ). front ++ written (written_structs ++ written_globals ++ flat_map function_pieces
    functions)) n
    ∙ ap (λ (ss : List StructDef). written (flat_map struct_pieces ss ++ written_globals ++ flat_map function_pieces
    functions)) s
    ∙ ap (λ (ls : List StructDef). written (flat_map struct_pieces m.structs ++ flat_map
    (global_pieces ls) globals ++ flat_map function_pieces functions)) l
    ∙ ap (λ (gs : List GlobalDef). written (flat_map struct_pieces m.structs ++ flat_map
    (global_pieces m.structs) gs ++ flat_map function_pieces functions)) g
    ∙ ap (λ (fs : List Function). written (flat_map struct_pieces m.structs ++ flat_map
    (global_pieces m.structs) m.globals ++ flat_map function_pieces fs)) f
