-- What definitions on types say of an array, by its elements.
use Rattle.std.proofs.Common.{◌≡◌, ◌*◌, ◌⊎◌, ℕ, ◌||◌, List, refl}
use Rattle.ds_ast.specs.declared.name.Name.{Name}
use Rattle.ds_ast.specs.declared.ty.Ty.{Ty}
use Rattle.ds_ast.specs.declared.ty.Ty as ty
use Rattle.ds_ast.specs.declared.ty.Ty.TheBlock.{hidden-the_row-Ty-0}
use denote.Hole.Carrier.{hidden}
use Rattle.ds_ast.specs.declared.module.StructDef.{StructDef}
use Rattle.ds_shape.specs.Written.{struct_in, IsTooLarge, WritesTooLarge}
use Rattle.ds_shape.specs.Capped.{capped, capped_extent, is_large, writes_large}
use Rattle.ds_shape.specs.declared.extents.CappedExtent.{CappedExtent}

pub struct_in_array : (n : ℕ) (of : Ty) → struct_in (ty.Array n of) ≡ struct_in of
unfolding hidden-the_row-Ty-0 hidden
struct_in_array n of = refl

pub extent_of_array : (h : Name → CappedExtent) (n : ℕ) (of : Ty) →
    capped_extent h (ty.Array n of) ≡ record
    { size = capped (n * (capped_extent h of).size); align = (capped_extent h of).align }
unfolding hidden-the_row-Ty-0 hidden
extent_of_array h n of = refl

pub too_large_array : (structs : List StructDef) (n : ℕ) (of : Ty) →
    WritesTooLarge structs (ty.Array n of) ≡ (IsTooLarge structs (ty.Array n of) ⊎ WritesTooLarge structs of)
unfolding hidden-the_row-Ty-0 hidden
too_large_array structs n of = refl

pub large_array : (h : Name → CappedExtent) (n : ℕ) (of : Ty) →
    writes_large h (ty.Array n of) ≡ (is_large (capped_extent h (ty.Array n of)) || writes_large h of)
unfolding hidden-the_row-Ty-0 hidden
large_array h n of = refl
