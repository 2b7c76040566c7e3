-- The canonical text of a module is read back.
use Rattle.std.proofs.Common.{◌≡◌, List, [], ◌∷◌, ◌++◌, map, refl, sym, ap, ◌∙◌, subst, append_assoc, append-nil}
use Rattle.std.specs.Prelude.{All, option_map, flat_map, codes}
use Rattle.ds_lex.specs.Written.{Piece}
use Rattle.ds_ast.specs.declared.module.Module.{Module}
use Rattle.ds_ast.specs.declared.module.StructDef.{StructDef}
use Rattle.ds_ast.specs.declared.module.GlobalDef.{GlobalDef}
use Rattle.ds_ast.specs.declared.module.Function.{Function}
use Rattle.ds_ast.specs.declared.module.Block.{Block}
use Rattle.ds_ast.specs.Bounds.{IsStruct, IsGlobal, IsFunction, Bounds}
use Rattle.ds_grammar.specs.declared.item.Entity.TheVariants as entity
use Rattle.ds_grammar.specs.Sort.{a_module, an_entity}
use Rattle.ds_grammar.specs.Grammar.{Grammar, Loop}
use Rattle.ds_grammar.specs.Tokens.{is_ignored_word, text_words}
use Rattle.ds_grammar.specs.Functions.{entity_of, entity_rest, module_text}
use Rattle.ds_print.specs.Names as print
use Rattle.ds_print.specs.Canonical.{type_pieces, listed, listed_behind_space, param_pieces, param_type, block_pieces}
use Rattle.ds_print.specs.Canonical.{init_pieces, struct_pieces, global_pieces, function_pieces, function_by}
use Rattle.ds_print.specs.Canonical.{module_pieces}
use Rattle.ds_print_laws.specs.Laws.{CanonicalTokensAreRead}
use Rattle.ds_print_laws.proofs.Gets.{Known, Gets, gap, done, run_end, run_item, read_from, ◌⨾◌}
use Rattle.ds_print_laws.proofs.Alls.{all_first, all_rest}
use Rattle.ds_print_laws.proofs.Names.{name_is}
use Rattle.ds_print_laws.proofs.Lists.{behind_these}
use Rattle.ds_print_laws.proofs.Types.{regroup}
use Rattle.ds_print_laws.proofs.Ends.{EndsInstruction, ends_gap}
use Rattle.ds_print_laws.proofs.Heads.{word_ends, global_ends}
use Rattle.ds_print_laws.proofs.Fronts.{struct_read}
use Rattle.ds_print_laws.proofs.Entities.{global_line_read, declare_read, define_read}

-- WHAT FOLLOWS an entity ends it

nothing_ends : EndsInstruction []
nothing_ends = record { no_ending = λ b at. refl; no_run = λ b at. refl; no_ordering = λ at. refl }

function_ends : (f : Function) (bs : List Block) (ps : List Piece) → EndsInstruction (function_by f bs ++ ps)
unfolding is_ignored_word text_words
function_ends f [] ps = word_ends (codes "declare") _ (λ b. refl) refl
function_ends f (b ∷ bs) ps = word_ends (codes "define") _ (λ b. refl) refl

functions_end : (fs : List Function) → EndsInstruction (flat_map function_pieces fs)
functions_end [] = nothing_ends
functions_end (f ∷ fs) = function_ends f f.blocks (flat_map function_pieces fs)

globals_end : (structs : List StructDef) (gs : List GlobalDef) (fs : List Function)
    → EndsInstruction (flat_map (global_pieces structs) gs ++ flat_map function_pieces fs)
globals_end structs [] fs = functions_end fs
globals_end structs (g ∷ gs) fs = global_ends g.name _

-- PIECES in the order in which they are read

abbrev declare_order : (f : Function) (ps : List Piece) → function_by f [] ++ ps
    ≡ print.word "declare" ∷ print.space ∷ type_pieces f.result
    ++ (print.space ∷ print.global f.name ∷ print.punct "(" ∷ listed (map param_type f.params)
    ++ print.punct ")" ∷ print.line_end ∷ ps)
declare_order f ps =
    let front = type_pieces f.result in
    let name = print.space ∷ print.global f.name ∷ print.punct "(" ∷ listed (map param_type f.params) in
    ap (λ xs. print.word "declare" ∷ print.space ∷ xs)
    (append_assoc ((front ++ name) ++ print.punct ")" ∷ []) (print.line_end ∷ []) ps
    ∙ (append_assoc (front ++ name) (print.punct ")" ∷ []) (print.line_end ∷ ps)
    ∙ append_assoc front name (print.punct ")" ∷ print.line_end ∷ ps)))

abbrev define_order : (f : Function) (b : Block) (bs : List Block) (ps : List Piece) → function_by f (b ∷ bs) ++ ps
    ≡ print.word "define" ∷ print.space ∷ type_pieces f.result
    ++ (print.space ∷ print.global f.name ∷ print.punct "(" ∷ listed (map param_pieces f.params)
    ++ (print.punct ")" ∷ print.space ∷ print.punct "{" ∷ print.line_end
    ∷ flat_map block_pieces (b ∷ bs) ++ print.punct "}" ∷ print.line_end ∷ ps))
define_order f b bs ps =
    let front = type_pieces f.result in
    let name = print.space ∷ print.global f.name ∷ print.punct "(" ∷ listed (map param_pieces f.params) in
    let body = print.space ∷ print.punct "{" ∷ print.line_end ∷ flat_map block_pieces (b ∷ bs) in
    let close = print.punct "}" ∷ print.line_end ∷ [] in
    ap (λ xs. print.word "define" ∷ print.space ∷ xs)
    (append_assoc (((front ++ name) ++ print.punct ")" ∷ []) ++ body) close ps
    ∙ (append_assoc ((front ++ name) ++ print.punct ")" ∷ []) body (close ++ ps)
    ∙ (append_assoc (front ++ name) (print.punct ")" ∷ []) (body ++ (close ++ ps))
    ∙ append_assoc front name (print.punct ")" ∷ body ++ (close ++ ps)))))

-- THE MODULE

abbrev parts : List StructDef → List GlobalDef → List Function → Module
parts structs globals functions = record { structs = structs; globals = globals; functions = functions }

abbrev lines : Module → Grammar a_module
lines m = Loop an_entity (λ m t. entity_of t.kind t.bytes) entity_rest m

abbrev function : Function → List Block → Function
function f bs = record { name = f.name; result = f.result; params = f.params; blocks = bs }

module _ (known : Known) (structs : List StructDef) where
  function_read : (globals : List GlobalDef) (acc : List Function) (f : Function) (bs : List Block) (ps : List Piece)
      (m : Module) → IsFunction (function f bs) → EndsInstruction ps
      → Gets (lines (parts structs globals (acc ++ function f bs ∷ []))) ps m []
      → Gets (lines (parts structs globals acc)) (function_by f bs ++ ps) m []
  function_read globals acc f [] ps m h ends k =
      read_from _ _ (declare_order f ps) (run_item known (λ at. entity.Declare) (λ at. refl)
      (λ at. declare_read known f.name f.result f.params (print.line_end ∷ ps) h.name h.result h.parameters
      (h.declared refl) (ends_gap (10 ∷ []) ps ends) ⨾ done _ (print.line_end ∷ ps)) (gap k))
  function_read globals acc f (b ∷ bs) ps m h ends k =
      read_from _ _ (define_order f b bs ps) (run_item known (λ at. entity.Define) (λ at. refl)
      (λ at. define_read known f.name f.result f.params b bs
      (print.line_end ∷ ps) h.name h.result h.parameters h.blocks h.counted ⨾ done _ (print.line_end ∷ ps)) (gap k))

  functions_read : (globals : List GlobalDef) (acc fs : List Function) → All IsFunction fs
      → Gets (lines (parts structs globals acc)) (flat_map function_pieces fs) (parts structs globals (acc ++ fs)) []
  functions_read globals acc [] h = subst (λ xs. Gets (lines (parts structs globals acc)) []
      (parts structs globals xs) []) (sym (append-nil acc)) (run_end known (λ at. refl))
  functions_read globals acc (f ∷ fs) h =
      function_read globals acc f f.blocks (flat_map function_pieces fs) (parts structs globals (acc ++ f ∷ fs))
      (all_first IsFunction f fs h) (functions_end fs)
      (subst (λ xs. Gets (lines (parts structs globals (acc ++ f ∷ []))) (flat_map function_pieces fs)
      (parts structs globals xs) []) (behind_these f acc fs)
      (functions_read globals (acc ++ f ∷ []) fs (all_rest IsFunction f fs h)))

  module _ (structs_are : All IsStruct structs) (fs : List Function) (functions_are : All IsFunction fs) where
    global_order : (g : GlobalDef) (ps : List Piece) → global_pieces structs g ++ ps
        ≡ print.global g.name ∷ print.space ∷ print.punct "=" ∷ print.space ∷ print.word "global" ∷ print.space ∷
        type_pieces g.ty ++ (print.space ∷ init_pieces structs g.ty g.init ++ (print.line_end ∷ ps))
    global_order g ps =
        ap (λ xs. print.global g.name ∷ print.space ∷ print.punct "=" ∷ print.space ∷ print.word "global" ∷
        print.space ∷ xs)
        (append_assoc (type_pieces g.ty ++ (print.space ∷ init_pieces structs g.ty g.init)) (print.line_end ∷ []) ps
        ∙ append_assoc (type_pieces g.ty) (print.space ∷ init_pieces structs g.ty g.init) (print.line_end ∷ ps))

    globals_read : (acc gs : List GlobalDef) → All (IsGlobal structs) gs
        → Gets (lines (parts structs acc [])) (flat_map (global_pieces structs) gs ++ flat_map function_pieces fs)
        (parts structs (acc ++ gs) fs) []
    globals_read acc [] h = subst (λ xs. Gets (lines (parts structs acc [])) (flat_map function_pieces fs)
        (parts structs xs fs) []) (sym (append-nil acc)) (functions_read acc [] fs functions_are)
    globals_read acc (g ∷ gs) h =
        let is_global = all_first (IsGlobal structs) g gs h in
        let rest = flat_map (global_pieces structs) gs ++ flat_map function_pieces fs in
        regroup (global_pieces structs g) (flat_map (global_pieces structs) gs) (flat_map function_pieces fs)
        (read_from _ _ (global_order g rest)
        (run_item known (λ at. entity.Global g.name) (λ at. ap (option_map (λ n. entity.Global n))
        (name_is known g.name is_global.name))
        (λ at. global_line_read known structs g (print.line_end ∷ rest) structs_are is_global
        (ends_gap (10 ∷ []) rest (globals_end structs gs fs)) ⨾ done _ (print.line_end ∷ rest))
        (gap (subst (λ xs. Gets (lines (parts structs (acc ++ g ∷ []) [])) rest (parts structs xs fs) [])
        (behind_these g acc gs) (globals_read (acc ++ g ∷ []) gs (all_rest (IsGlobal structs) g gs h))))))

module _ (known : Known) (all : List StructDef) (structs_are : All IsStruct all) (gs : List GlobalDef)
    (globals_are : All (IsGlobal all) gs) (fs : List Function) (functions_are : All IsFunction fs) where
  abbrev others : List Piece
  others = flat_map (global_pieces all) gs ++ flat_map function_pieces fs

  structs_read : (acc ss : List StructDef) → acc ++ ss ≡ all → All IsStruct ss
      → Gets (lines (parts acc [] [])) (flat_map struct_pieces ss ++ others) (parts all gs fs) []
  structs_read acc [] e h = subst (λ xs. Gets (lines (parts xs [] [])) others (parts all gs fs) [])
      (sym (sym (append-nil acc) ∙ e)) (globals_read known all structs_are fs functions_are [] gs globals_are)
  structs_read acc (s ∷ ss) e h =
      let is_struct = all_first IsStruct s ss h in
      let rest = flat_map struct_pieces ss ++ others in
      regroup (struct_pieces s) (flat_map struct_pieces ss) others (read_from _ _
      (ap (λ xs. print.local s.name ∷ print.space ∷ print.punct "=" ∷ print.space ∷ print.word "type" ∷ print.space ∷
      print.punct "{" ∷ xs)
      (append_assoc (listed_behind_space (map type_pieces s.fields))
      (print.space ∷ print.punct "}" ∷ print.line_end ∷ []) rest))
      (run_item known (λ at. entity.Struct s.name) (λ at. ap (option_map (λ n. entity.Struct n))
      (name_is known s.name is_struct.name))
      (λ at. struct_read known s.name s.fields (print.line_end ∷ rest) is_struct.fields ⨾ done _
      (print.line_end ∷ rest))
      (gap (structs_read (acc ++ s ∷ []) ss (behind_these s acc ss ∙ e) (all_rest IsStruct s ss h)))))

-- the tokens of the whole text are read as the module
module_read : (known : Known) (m : Module) → Bounds m → Gets module_text (module_pieces m) m []
unfolding module_text module_pieces
module_read known m h =
    regroup (flat_map struct_pieces m.structs) (flat_map (global_pieces m.structs) m.globals)
    (flat_map function_pieces m.functions)
    (structs_read known m.structs h.structs m.globals h.globals m.functions h.functions [] m.structs refl h.structs)

pub canonical_tokens_read : Known → CanonicalTokensAreRead
canonical_tokens_read known m end h = let x = (module_read known m h).is 0 end in x.1
