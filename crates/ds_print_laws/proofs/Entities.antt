-- Struct types, globals and functions are read back.
use Rattle.std.proofs.Common.{false, List, [], ◌∷◌, ◌++◌, map, refl}
use Rattle.std.specs.Prelude.{All, flat_map}
use Rattle.ds_lex.specs.Written.{Piece}
use Rattle.ds_ast.specs.declared.name.Name.{Name}
use Rattle.ds_ast.specs.declared.ty.Ty.{Ty, Void, One, Struct, Array', more_of-Ty, end_of-Ty}
use Rattle.ds_ast.specs.declared.module.StructDef.{StructDef}
use Rattle.ds_ast.specs.declared.module.GlobalDef.{GlobalDef}
use Rattle.ds_ast.specs.declared.module.Param.{Param}
use Rattle.ds_ast.specs.declared.module.Block.{Block}
use Rattle.ds_ast.specs.Bounds.{IsName, IsType, IsBlock, IsStruct, IsGlobal, IsCounted, IsNumbered, numbers}
use Rattle.ds_ast.specs.Bounds.{names_of_block}
use Rattle.ds_grammar.specs.Tokens.{is_ignored_word, text_words}
use Rattle.ds_grammar.specs.Rows.{fact}
use Rattle.ds_grammar.specs.Globals.{global_line}
use Rattle.ds_grammar.specs.Functions.{body_from, define_line, declare_line, metadata_pairs, is_meta}
use Rattle.ds_print.specs.Names as print
use Rattle.ds_print.specs.Canonical.{type_pieces, listed, param_pieces, param_type, block_pieces, init_pieces}
use Rattle.ds_print_laws.proofs.Gets.{Known, Gets, NoneBegins, gap, done, one, run_end, ◌⨾◌}
use Rattle.ds_print_laws.proofs.Values.{global_read}
use Rattle.ds_print_laws.proofs.Types.{type_read}
use Rattle.ds_print_laws.proofs.Ends.{EndsInstruction, no_ignored, no_endings, none_before_type}
use Rattle.ds_print_laws.proofs.Parameters.{params_read, declared_read}
use Rattle.ds_print_laws.proofs.Bodies.{blocks_read}
use Rattle.ds_print_laws.proofs.Initialisers.{initialiser_read}

-- a type is no metadata
no_meta : (t : Ty) (ps : List Piece) → NoneBegins (λ t. fact (is_meta t.kind)) (type_pieces t ++ ps)
no_meta Void ps = λ at. refl
no_meta (One s) ps = λ at. refl
no_meta (Struct name) ps = λ at. refl
no_meta (Array' n _ (more_of-Ty of end_of-Ty)) ps = λ at. refl

module _ (known : Known) where
  -- = global T INIT
  pub global_line_read : (structs : List StructDef) (g : GlobalDef) (ps : List Piece) → All IsStruct structs
      → IsGlobal structs g → EndsInstruction ps
      → Gets (global_line structs g.name) (print.space ∷ print.punct "=" ∷ print.space ∷ print.word "global" ∷
      print.space ∷ type_pieces g.ty ++ (print.space ∷ init_pieces structs g.ty g.init ++ ps)) g ps
  unfolding global_line is_ignored_word text_words
  global_line_read structs g ps are h ends =
      gap (one {v = tt} (λ at. refl) ⨾ gap (no_ignored known _ (λ at. refl) ⨾
      (one {v = tt} (λ at. refl) ⨾ gap (type_read known g.ty _ h.of_type
      ⨾ gap (initialiser_read known structs are 64 g.ty g.init ps h.of_type h.fits h.depth ⨾
      (no_endings known ps ends ⨾ done g ps))))))

  no_metadata : (t : Ty) (ps : List Piece) → Gets metadata_pairs (type_pieces t ++ ps) tt (type_pieces t ++ ps)
  unfolding metadata_pairs
  no_metadata t ps = run_end known (no_meta t ps)

  -- T G ( S,* )
  pub declare_read : (name : Name) (t : Ty) (params : List Param) (ps : List Piece) → IsName name → IsType t
      → All (λ param. IsName param.name) params → IsNumbered 0 params → EndsInstruction ps
      → Gets declare_line (print.space ∷ type_pieces t
      ++ (print.space ∷ print.global name ∷ print.punct "(" ∷ listed (map param_type params) ++ print.punct ")" ∷ ps))
      (record { name = name; result = t; params = params; blocks = [] }) ps
  unfolding declare_line
  declare_read name t params ps iname it ip in_order ends =
      gap (no_metadata t _ ⨾ (none_before_type known t _ ⨾
      (type_read known t _ it ⨾ gap (global_read known name _ iname ⨾
      (one {v = tt} (λ at. refl) ⨾ (declared_read known params ps ip in_order
      ⨾ (one {v = tt} (λ at. refl) ⨾ (no_ignored known ps (ends.no_run false) ⨾ done _ ps))))))))

  -- T G ( P,* ) { block block* }
  pub define_read : (name : Name) (t : Ty) (params : List Param) (b : Block) (bs : List Block) (ps : List Piece)
      → IsName name → IsType t → All (λ param. IsName param.name) params → All IsBlock (b ∷ bs)
      → IsCounted 0 (numbers (map (λ param. param.name) params ++ flat_map names_of_block (b ∷ bs)))
      → Gets define_line (print.space ∷ type_pieces t
      ++ (print.space ∷ print.global name ∷ print.punct "(" ∷ listed (map param_pieces params)
      ++ (print.punct ")" ∷ print.space ∷ print.punct "{" ∷ print.line_end
      ∷ flat_map block_pieces (b ∷ bs) ++ print.punct "}" ∷ ps)))
      (record { name = name; result = t; params = params; blocks = b ∷ bs }) ps
  unfolding define_line body_from
  define_read name t params b bs ps iname it ip ib ic =
      let behind =
      print.space ∷ print.punct "{" ∷ print.line_end ∷ flat_map block_pieces (b ∷ bs) ++ print.punct "}" ∷ ps in
      let x = params_read known params (flat_map names_of_block (b ∷ bs)) behind ip ic in
      let y = blocks_read known [] (b ∷ bs) x.0 ps ib x.1 in
      gap (none_before_type known t _ ⨾ (type_read known t _ it ⨾ gap
      (global_read known name _ iname ⨾ (one {v = tt} (λ at. refl) ⨾ (x.2
      ⨾ (no_ignored known behind (λ at. refl) ⨾ (gap (one {v = tt} (λ at. refl)) ⨾
      (gap y.1 ⨾ (done (b ∷ bs) _ ⨾ (one {v = tt} (λ at. refl) ⨾ done _ ps))))))))))
