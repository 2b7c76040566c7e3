-- Struct types, globals, functions and whole modules are written apart.
use Rattle.std.proofs.Common.{List, [], ◌∷◌, ◌++◌, map, refl, subst, append-nil}
use Rattle.std.specs.Prelude.{All, Option, Some, None, IfSome, flat_map}
use Rattle.ds_lex.specs.Bytes.{class_of}
use Rattle.ds_lex.specs.Written.{Piece}
use Rattle.ds_ast.specs.declared.name.Name.{Name}
use Rattle.ds_ast.specs.declared.instr.Op.{Op}
use Rattle.ds_ast.specs.declared.instr.Instr.{Instr}
use Rattle.ds_ast.specs.declared.module.Module.{Module}
use Rattle.ds_ast.specs.declared.module.StructDef.{StructDef}
use Rattle.ds_ast.specs.declared.module.GlobalDef.{GlobalDef}
use Rattle.ds_ast.specs.declared.module.Function.{Function}
use Rattle.ds_ast.specs.declared.module.Param.{Param}
use Rattle.ds_ast.specs.declared.module.Block.{Block}
use Rattle.ds_ast.specs.Bounds.{IsName, IsType, IsOp, IsInstr, IsBlock, IsStruct, IsGlobal, IsFunction, Bounds}
use Rattle.ds_print.specs.Names.{space, line_end, punct, global, indent}
use Rattle.ds_print.specs.Canonical.{listed, listed_behind_space, type_pieces, struct_pieces, init_pieces}
use Rattle.ds_print.specs.Canonical.{global_pieces, op_pieces, result_pieces, instr_pieces, block_pieces}
use Rattle.ds_print.specs.Canonical.{param_pieces, param_type, head_pieces, function_by, function_pieces}
use Rattle.ds_print.specs.Canonical.{module_pieces}
use Rattle.ds_print_laws.specs.Apart.{CanonicalPiecesAreApart}
use Rattle.ds_print_laws.proofs.Behind.{Apart, Behind, ArePieces, apart, nothing, put, put_all, only, in_a_row}
use Rattle.ds_print_laws.proofs.Behind.{in_a_row_behind, blank, ended, indented, equals, opening, closing}
use Rattle.ds_print_laws.proofs.Behind.{opening_curly, closing_curly, listed_apart, listed_behind_space_apart}
use Rattle.ds_print_laws.proofs.Behind.{rows_apart}
use Rattle.ds_print_laws.proofs.Spelled_names.{Numerals, local_is, global_is, label_is}
use Rattle.ds_print_laws.proofs.Spelled_values.{word_is, scalar_is}
use Rattle.ds_print_laws.proofs.Apart_ops.{type_is, op_apart}
use Rattle.ds_print_laws.proofs.Apart_inits.{init_apart}

module _ (numerals : Numerals) where
  -- STRUCT TYPES AND GLOBALS

  struct_apart : (s : StructDef) (ps : List Piece) → IsStruct s → Apart ps → Apart (struct_pieces s ++ ps)
  unfolding class_of
  struct_apart s ps h k =
      put (local_is numerals s.name h.name) (blank (apart
      (equals (apart (blank (put (word_is _ refl) (blank (apart (opening_curly
      (in_a_row (listed_behind_space (map type_pieces s.fields)) (space ∷ punct "}" ∷ line_end ∷ []) ps
      (apart (listed_behind_space_apart type_pieces IsType (type_is numerals) s.fields h.fields
      (blank (apart (closing_curly (apart (ended k)))))))))))))))))

  global_apart : (structs : List StructDef) → All IsStruct structs → (g : GlobalDef) (ps : List Piece)
      → IsGlobal structs g → Apart ps → Apart (global_pieces structs g ++ ps)
  unfolding class_of
  global_apart structs are g ps h k =
      let init = space ∷ init_pieces structs g.ty g.init in
      put (global_is numerals g.name h.name) (blank (apart (equals (apart (blank (put (word_is _ refl) (blank
      (in_a_row (type_pieces g.ty ++ init) (line_end ∷ []) ps (in_a_row (type_pieces g.ty) init (line_end ∷ ps)
      (put_all (type_pieces g.ty) (type_is numerals g.ty h.of_type)
      (blank (init_apart numerals structs are g.ty g.init (line_end ∷ ps) h.of_type h.fits (ended k)))))))))))))

  -- FUNCTIONS

  instr_by : (r : Option Name) (o : Op) (ps : List Piece) → IfSome r IsName → IsOp o → Apart ps
      → Apart ((indent ∷ result_pieces r ++ op_pieces o ++ line_end ∷ []) ++ ps)
  instr_by None o ps named h k =
      apart (indented (in_a_row (op_pieces o) (line_end ∷ []) ps (op_apart numerals o (line_end ∷ ps) h (ended k))))
  instr_by (Some name) o ps named h k =
      apart (indented (put (local_is numerals name named) (blank (apart (equals (apart (blank
      (in_a_row (op_pieces o) (line_end ∷ []) ps (op_apart numerals o (line_end ∷ ps) h (ended k))))))))))

  instr_apart : (i : Instr) (ps : List Piece) → IsInstr i → Apart ps → Apart (instr_pieces i ++ ps)
  instr_apart i ps h k = instr_by i.result i.op ps h.name h.given k

  block_apart : (b : Block) (ps : List Piece) → IsBlock b → Apart ps → Apart (block_pieces b ++ ps)
  block_apart b ps h k = put (label_is numerals b.name h.name)
      (ended (rows_apart instr_pieces IsInstr instr_apart b.code h.instructions k))

  abbrev HasName : Param → Type 0
  HasName p = IsName p.name

  param_is : (p : Param) → HasName p → ArePieces (param_pieces p)
  param_is p h = record { before = λ ps k. put (scalar_is p.ty) (blank (put (local_is numerals p.name h) k)) }

  param_type_is : (p : Param) → HasName p → ArePieces (param_type p)
  param_type_is p h = only (scalar_is p.ty)

  head_apart : (f : Function) (params : List (List Piece)) (ps : List Piece) → IsName f.name → IsType f.result
      → ((qs : List Piece) → Behind qs → Apart (listed params ++ qs)) → Apart ps
      → Behind (head_pieces f params ++ ps)
  head_apart f params ps named it each k =
      let front = space ∷ global f.name ∷ punct "(" ∷ listed params in
      blank (in_a_row (type_pieces f.result ++ front) (punct ")" ∷ []) ps
      (in_a_row (type_pieces f.result) front (punct ")" ∷ ps)
      (put_all (type_pieces f.result) (type_is numerals f.result it)
      (blank (put (global_is numerals f.name named) (opening (each (punct ")" ∷ ps) (closing k))))))))

  function_by_apart : (f : Function) (bs : List Block) (ps : List Piece) → IsFunction f → All IsBlock bs → Apart ps
      → Apart (function_by f bs ++ ps)
  unfolding class_of
  function_by_apart f [] ps h are k =
      put (word_is _ refl) (in_a_row_behind (head_pieces f (map param_type f.params)) (line_end ∷ []) ps
      (head_apart f (map param_type f.params) (line_end ∷ ps) h.name h.result
      (λ qs j. listed_apart param_type HasName param_type_is f.params h.parameters j) (apart (ended k))))
  function_by_apart f (b ∷ bs) ps h are k =
      let head = head_pieces f (map param_pieces f.params) in
      let body = space ∷ punct "{" ∷ line_end ∷ flat_map block_pieces (b ∷ bs) in
      put (word_is _ refl) (in_a_row_behind (head ++ body) (punct "}" ∷ line_end ∷ []) ps
      (in_a_row_behind head body (punct "}" ∷ line_end ∷ ps)
      (head_apart f (map param_pieces f.params) (body ++ punct "}" ∷ line_end ∷ ps) h.name h.result
      (λ qs j. listed_apart param_pieces HasName param_is f.params h.parameters j)
      (apart (blank (apart (opening_curly (apart (ended
      (rows_apart block_pieces IsBlock block_apart (b ∷ bs) are (apart (closing_curly (apart (ended k))))))))))))))

  function_apart : (f : Function) (ps : List Piece) → IsFunction f → Apart ps → Apart (function_pieces f ++ ps)
  function_apart f ps h k = function_by_apart f f.blocks ps h h.blocks k

  -- MODULES

  module_apart : (m : Module) → Bounds m → Apart (module_pieces m ++ [])
  unfolding module_pieces
  module_apart m h =
      let structs = flat_map struct_pieces m.structs in
      let globals = flat_map (global_pieces m.structs) m.globals in
      let functions = flat_map function_pieces m.functions in
      in_a_row (structs ++ globals) functions [] (in_a_row structs globals (functions ++ [])
      (rows_apart struct_pieces IsStruct struct_apart m.structs h.structs
      (rows_apart (global_pieces m.structs) (IsGlobal m.structs) (global_apart m.structs h.structs) m.globals h.globals
      (rows_apart function_pieces IsFunction function_apart m.functions h.functions (apart nothing)))))

  pub canonical_pieces_apart : CanonicalPiecesAreApart
  canonical_pieces_apart m h = let x = subst Apart (append-nil (module_pieces m)) (module_apart m h) in x.are
