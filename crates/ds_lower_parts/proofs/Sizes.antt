-- Sizes and offsets as they are computed.
use Rattle.std.proofs.Common.{◌≡◌, ℕ, ◌<◌, Bool, true, false, if◌then◌else◌, List, [], ◌∷◌, length, refl, ap}
use Rattle.std.proofs.Common.{sym, ◌∙◌}
use Rattle.std.proofs.Common.{subst, zero, suc, Option, Some, slice_get, true≢false}
use Rattle.std.specs.Option.{unwrap_or, option_copied}
use denote.Ref.{Bor}
use denote.Hole.Carrier.{hidden}
use Rattle.std.specs.Bool.{Decides}
use Rattle.std.proofs.lemmas.Bool.Decides.{Decides-eqb}
use Rattle.std.proofs.lemmas.Slice.Eq.{bytes_eq-Decides}
use Rattle.ds_ast.specs.declared.name.Name.{Name}
use Rattle.ds_ast.specs.declared.name.Name.TheVariants.{Number, Text}
use Rattle.ds_ast.specs.declared.ty.Ty.{Ty}
use Rattle.ds_ast.specs.declared.ty.Ty as ty
use Rattle.ds_ast.specs.declared.ty.Ty.TheBlock.{hidden-the_row-Ty-0}
use Rattle.ds_ast.specs.declared.operand.Operand.{Operand}
use Rattle.ds_ast.specs.declared.module.Module.{Module}
use Rattle.ds_ast.specs.declared.module.StructDef.{StructDef}
use Rattle.ds_ast.specs.Bounds.{is_name, fields_of}
use Rattle.ds_shape.specs.Accepted.{HasLayout}
use Rattle.ds_shape.specs.Fits.{Fits, HasField}
use Rattle.ds_shape.specs.Laws.{ExtentsAreComputed, OffsetsAreComputed, OffsetsExist, FieldsFit, ElementsFit}
use Rattle.ds_shape.specs.Address.{Step, element_step, step_into}
use Rattle.ds_shape.specs.Sizes.{Extent, HasExtent, HasOffset, offset_of, layout_of}
use Rattle.ds_shape.specs.Types.{Stands}

-- the size of a type that fits
pub size_same : (structs : List StructDef) (t : Ty) (n : ℕ) → ExtentsAreComputed → Fits structs t
    → ((e : Extent) → HasExtent structs t e → n ≡ e.size) → n ≡ (layout_of structs t).size
size_same structs t n law fits h =
    h fits.0 fits.1
    ∙ ap (λ (o : Option Extent). (unwrap_or o (record { size = 0; align = 1 })).size)
    (sym ((law structs t fits.0).0 fits.1))

abbrev number : Name → ℕ
number (Number n) = n
number (Text bytes) = 0

abbrev spelling : Name → List ℕ
spelling (Number n) = []
spelling (Text bytes) = bytes

pub names_decide : (m n : Name) → Decides (is_name m n) (m ≡ n)
names_decide (Number a) (Number b) = let d = Decides-eqb a b in (λ e. ap Number (d.0 e), λ e. d.1 (ap number e))
names_decide (Number a) (Text b) = (λ e. absurd (true≢false (sym e)), λ e. cc)
names_decide (Text a) (Number b) = (λ e. absurd (true≢false (sym e)), λ e. cc)
names_decide (Text a) (Text b) = let d = bytes_eq-Decides a b in (λ e. ap Text (d.0 e), λ e. d.1 (ap spelling e))

-- the line of a struct's name
line_of : (structs : List StructDef) (name : Name) (fields : List Ty) → fields_of structs name ≡ Some fields
    → (s : StructDef) × Stands s structs × (s.name ≡ name) × (s.fields ≡ fields)
line_of [] name fields e = absurd (cc)
line_of (s ∷ structs) name fields e = by_test (λ f. line_of structs name fields f) (is_name s.name name) refl e
  where
    by_test : (fields_of structs name ≡ Some fields
        → (r : StructDef) × Stands r structs × (r.name ≡ name) × (r.fields ≡ fields))
        → (t : Bool) → is_name s.name name ≡ t → (if t then Some s.fields else fields_of structs name) ≡ Some fields
        → (r : StructDef) × Stands r (s ∷ structs) × (r.name ≡ name) × (r.fields ≡ fields)
    by_test rec true is e =
        let same : s.fields ≡ fields = cc in (s, ([], structs, refl), (names_decide s.name name).0 is, same)
    by_test rec false is e =
        let r = rec e in
        (r.0, (s ∷ r.1.0, r.1.1, ap (λ xs. s ∷ xs) r.1.2), r.2, r.3)

-- the offset of a field that is there
pub offset_same : (m : Module) (name : Name) (n k : ℕ) → OffsetsAreComputed → OffsetsExist → HasLayout m
    → HasField m.structs name n
    → ((offset : ℕ) → HasOffset m.structs name n offset → k ≡ offset)
    → k ≡ unwrap_or (offset_of m.structs name n) 0
offset_same m name n k law exist layout field h =
    let line = line_of m.structs name field.0 field.1 in
    let inside : n < length line.0.fields = subst (λ (fs : List Ty). n < length fs) (sym line.3) field.2 in
    let found = exist m line.0 n layout line.1 inside in
    let is : HasOffset m.structs name n found.0 = subst (λ x. HasOffset m.structs x n found.0) line.2 found.1 in
    h found.0 is ∙ ap (λ o. unwrap_or o 0) (sym ((law m.structs name n found.0).0 is))

-- THE SCOPE

structs_are : (m n : Module) (structs : List StructDef) → structs ≡ m.structs → m ≡ n → structs ≡ n.structs
structs_are m n structs same is = same ∙ ap (λ (w : Module). w.structs) is

pub size_fits : (m n : Module) (structs : List StructDef) (t : Ty) → structs ≡ m.structs → m ≡ n → Fits n.structs t
    → Fits structs t
size_fits m n structs t same is fits = subst (λ (ss : List StructDef). Fits ss t) (sym (structs_are m n structs same
    is)) fits

pub size_in_scope : (m n : Module) (structs : List StructDef) (t : Ty) (k : ℕ) → structs ≡ m.structs → m ≡ n
    → k ≡ (layout_of structs t).size → k ≡ (layout_of n.structs t).size
size_in_scope m n structs t k same is e =
    e ∙ ap (λ (ss : List StructDef). (layout_of ss t).size) (structs_are m n structs same is)

pub offset_in_scope : (m n : Module) (structs : List StructDef) (name : Name) (k r : ℕ) → structs ≡ m.structs → m ≡ n
    → OffsetsAreComputed → OffsetsExist → HasLayout m → HasField n.structs name k
    → ((offset : ℕ) → HasOffset structs name k offset → r ≡ offset)
    → r ≡ unwrap_or (offset_of n.structs name k) 0
offset_in_scope m n structs name k r same is law exist layout field h =
    subst (λ (w : Module). r ≡ unwrap_or (offset_of w.structs name k) 0) is
    (offset_same m name k r law exist layout (subst (λ (w : Module). HasField w.structs name k) (sym is) field)
    (λ o e. h o (subst (λ (ss : List StructDef). HasOffset ss name k o) (sym same) e)))

-- ADDRESSES

get_stands : {A : Type 0} (xs : List A) (n : ℕ) (x : A) → slice_get xs n ≡ Some x → Stands x xs
get_stands [] n x e = absurd (cc)
get_stands (y ∷ xs) zero x e = let same : y ≡ x = cc in ([], xs, ap (λ z. z ∷ xs) same)
get_stands (y ∷ xs) (suc n) x e = let s = get_stands xs n x e in (y ∷ s.0, s.1, ap (λ zs. y ∷ zs) s.2)

-- the type of a field fits
pub field_fits : (m : Module) (name : Name) (found : Option (Bor (List Ty))) (fields : Bor (List Ty)) (o : Option (Bor
    Ty))
    (next : Bor Ty) (n : ℕ) → FieldsFit → HasLayout m → option_copied found ≡ fields_of m.structs name
    → found ≡ Some fields → option_copied o ≡ slice_get fields.now n → o ≡ Some next → Fits m.structs next.now
field_fits m name found fields o next n law layout named is read at =
    law m name fields.now next.now layout (sym named ∙ ap option_copied is)
    (get_stands fields.now n next.now (sym read ∙ ap option_copied at))

-- the elements of an array fit
pub element_fits : (structs : List StructDef) (t of r : Ty) (count : ℕ) → ElementsFit → Fits structs t
    → t ≡ ty.Array count of → r ≡ of → Fits structs r
element_fits structs t of r count law fits is same =
    subst (λ x. Fits structs x) (sym same) (law structs count of (subst (λ x. Fits structs x) is fits))

step_into-array : (structs : List StructDef) (n : ℕ) (of : Ty) (i : Operand)
    → step_into structs (ty.Array n of) i ≡ Some (element_step structs of)
unfolding hidden-the_row-Ty-0 hidden
step_into-array structs n of i = refl

-- an index into an array
pub element_step_is : (structs : List StructDef) (t of r : Ty) (count : ℕ) (i : Operand) (s : Step) → t
    ≡ ty.Array count of
    → r ≡ of → s ≡ element_step structs r → Some s ≡ step_into structs t i
element_step_is structs t of r count i s is same e =
    ap (λ x. Some x) (e ∙ ap (λ x. element_step structs x) same)
    ∙ sym (ap (λ x. step_into structs x i) is ∙ step_into-array structs count of i)
