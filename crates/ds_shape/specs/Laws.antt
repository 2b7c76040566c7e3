-- The statements of the laws.
use Rattle.std.specs.Prelude.{◌≡◌, ◌<◌, ◌↔◌, ◌++◌, ℕ, List, length, Some}
use Rattle.ds_ast.specs.declared.name.Name.{Name}
use Rattle.ds_ast.specs.declared.ty.Ty.{Ty}
use Rattle.ds_ast.specs.declared.ty.Ty as ty
use Rattle.ds_ast.specs.declared.module.Module.{Module}
use Rattle.ds_ast.specs.declared.module.StructDef.{StructDef}
use Rattle.ds_ast.specs.declared.module.GlobalDef.{GlobalDef}
use Rattle.ds_shape.specs.Sizes.{Extent, HasExtent, HasOffset, extent_of, offset_of}
use Rattle.ds_shape.specs.Written.{Line, lines_of}
use Rattle.ds_shape.specs.Types.{Stands}
use Rattle.ds_shape.specs.Image.{location_of, words_of_global, address_of, image_of}
use Rattle.ds_ast.specs.Bounds.{fields_of}
use Rattle.ds_shape.specs.Accepted.{HasLayout, HasWords}
use Rattle.ds_shape.specs.Fault.{HasShapeFault}
use Rattle.ds_shape.specs.Fits.{Fits}
use Rattle.ds_shape.specs.declared.fault.ShapeFault.{ShapeFault}

-- a type has at most one extent
abbrev pub ExtentsAreUnique : Type 0
ExtentsAreUnique = (structs : List StructDef) (t : Ty) (e f : Extent) → HasExtent structs t e → HasExtent structs t f →
    e ≡ f

-- a field has at most one offset
abbrev pub OffsetsAreUnique : Type 0
OffsetsAreUnique = (structs : List StructDef) (name : Name) (n a b : ℕ) → HasOffset structs name n a →
    HasOffset structs name n b → a ≡ b

-- what `extent_of` computes is the extent of a type at some depth of structs
abbrev pub ExtentsAreComputed : Type 0
ExtentsAreComputed = (structs : List StructDef) (t : Ty) (e : Extent) →
    HasExtent structs t e ↔ (extent_of structs t ≡ Some e)

-- and what `offset_of` computes the offset of a field
abbrev pub OffsetsAreComputed : Type 0
OffsetsAreComputed = (structs : List StructDef) (name : Name) (n offset : ℕ) →
    HasOffset structs name n offset ↔ (offset_of structs name n ≡ Some offset)

-- in a module that has a layout each type that is written has an extent
abbrev pub ExtentsExist : Type 0
ExtentsExist = (m : Module) (l : Line) (t : Ty) → HasLayout m → Stands l (lines_of m) → Stands t l.types →
    (e : Extent) × HasExtent m.structs t e

-- and each field of a struct has an offset
abbrev pub OffsetsExist : Type 0
OffsetsExist = (m : Module) (s : StructDef) (n : ℕ) → HasLayout m → Stands s m.structs → n < length s.fields →
    (offset : ℕ) × HasOffset m.structs s.name n offset

-- a module that has a layout has no fault
abbrev pub LayoutsAreNotRefused : Type 0
LayoutsAreNotRefused = (m : Module) (fault : ShapeFault) → HasLayout m → HasShapeFault m fault → ⊥

-- and another has one first fault
abbrev pub OneFirstFault : Type 0
OneFirstFault = (m : Module) (f g : ShapeFault) → HasShapeFault m f → HasShapeFault m g → f ≡ g

-- in a module that has a layout each type that is written fits
abbrev pub WrittenTypesFit : Type 0
WrittenTypesFit = (m : Module) (l : Line) (t : Ty) → HasLayout m → Stands l (lines_of m) → Stands t l.types →
    Fits m.structs t

-- and so does the type of each field of a struct
abbrev pub FieldsFit : Type 0
FieldsFit = (m : Module) (name : Name) (fields : List Ty) (t : Ty) → HasLayout m →
    fields_of m.structs name ≡ Some fields → Stands t fields → Fits m.structs t

-- with an array its elements fit
abbrev pub ElementsFit : Type 0
ElementsFit = (structs : List StructDef) (count : ℕ) (of : Ty) → Fits structs (ty.Array count of) → Fits structs of

-- in a module that has a layout the words with which the globals begin are as many as the globals have
abbrev pub WordsAreCounted : Type 0
WordsAreCounted = (address : ℕ → ℕ) (m : Module) (n : ℕ) → HasLayout m →
    HasWords m.structs m.globals n ↔ (n ≡ length (image_of address m))

-- so many of the words with which the globals begin stand before those of a global as its location says
pub record IsLaidOut (address : ℕ → ℕ) (m : Module) (g : GlobalDef) (location : ℕ) : Type 0 where
  pub front : List ℕ
  pub back : List ℕ
  pub image : image_of address m ≡ front ++ words_of_global m.structs (address_of address m) g ++ back
  pub before : length front ≡ location

-- where a name has a location, a global has the name, and its words stand there
abbrev pub GlobalsAreLaidOut : Type 0
GlobalsAreLaidOut = (address : ℕ → ℕ) (m : Module) (name : Name) (location : ℕ) →
    location_of m.structs m.globals name ≡ Some location →
    (g : GlobalDef) × Stands g m.globals × (g.name ≡ name) × IsLaidOut address m g location
