-- Parts of the canonical text that the code writes one by one.
use Rattle.std.specs.Prelude.{List, [], ◌∷◌, ◌++◌, flat_map, map, Option}
use Rattle.ds_lex.specs.Written.{Piece}
use Rattle.ds_ast.specs.declared.ty.Ty.{Ty}
use Rattle.ds_ast.specs.declared.init.Init.{Init}
use Rattle.ds_ast.specs.declared.module.StructDef.{StructDef}
use Rattle.ds_ast.specs.declared.module.Function.{Function}
use Rattle.ds_print.specs.Names.{space, line_end, word, punct}
use Rattle.ds_print.specs.Canonical.{head_pieces, param_type, param_pieces, block_pieces, element_front, or_void}
use Rattle.ds_print.specs.Canonical.{first_type, more_types, init_pieces}

-- the function as a declaration
abbrev pub declaration_pieces : Function → List Piece
declaration_pieces f = word "declare" ∷ head_pieces f (map param_type f.params) ++ line_end ∷ []

-- the function as a definition
abbrev pub definition_pieces : Function → List Piece
definition_pieces f = word "define" ∷ head_pieces f (map param_pieces f.params)
    ++ space ∷ punct "{" ∷ line_end ∷ flat_map block_pieces f.blocks ++ punct "}" ∷ line_end ∷ []

-- an element of an initialiser behind its type, where it has one
abbrev pub part_pieces : List StructDef → Option Ty → Init → List Piece
part_pieces structs ty part = element_front ty ++ init_pieces structs (or_void ty) part

-- the fields of a struct, each behind the type at its place
abbrev pub parts_in_order : List StructDef → List Ty → List Init → List (List Piece)
parts_in_order structs types [] = []
parts_in_order structs types (part ∷ parts) =
    part_pieces structs (first_type types) part ∷ parts_in_order structs (more_types types) parts
