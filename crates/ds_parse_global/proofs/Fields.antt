-- The type of a field by its place.
use Rattle.std.proofs.Common.{◌≡◌, ℕ, zero, suc, List, [], ◌∷◌, refl}
use Rattle.std.specs.Prelude.{slice_get}
use Rattle.ds_ast.specs.declared.ty.Ty.{Ty}
use Rattle.ds_grammar.specs.Globals.{field_at}

pub field_at-get : (ts : List Ty) (n : ℕ) → field_at ts n ≡ slice_get ts n
field_at-get [] n = refl
field_at-get (t ∷ ts) zero = refl
field_at-get (t ∷ ts) (suc n) = field_at-get ts n
