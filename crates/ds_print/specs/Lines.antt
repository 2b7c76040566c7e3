-- The fields of struct types, kept beside their names.
use Rattle.std.specs.Prelude.{◌≡◌, List, [], ◌∷◌, length, Option, Some, None, if◌then◌else◌}
use denote.Ref.{Bor}
use Rattle.ds_ast.specs.declared.name.Name.{Name}
use Rattle.ds_ast.specs.declared.ty.Ty.{Ty}
use Rattle.ds_ast.specs.declared.module.StructDef.{StructDef}
use Rattle.ds_ast.specs.Bounds.{is_name, fields_of}

-- the fields beside the name, where it stands there
abbrev pub fields_beside : List Name → List (Bor (List Ty)) → Name → Option (List Ty)
fields_beside [] fields name = None
fields_beside (n ∷ names) [] name = None
fields_beside (n ∷ names) (f ∷ fields) name = if is_name n name then Some f.now else fields_beside names fields name

-- each name has the fields of the first of these lines beside it
abbrev pub Kept : List Name → List (Bor (List Ty)) → List StructDef → Type 0
Kept names fields lines =
    (length names ≡ length fields) × ((name : Name) → fields_beside names fields name ≡ fields_of lines name)
