-- The bytes of initialisers by the lists of their parts.
use Rattle.std.proofs.Common.{◌≡◌, ℕ, zero, suc, ◌+◌, ◌-◌, ◌/◌, ◌%◌, ◌^◌, ◌<◌, ◌≤◌, List, [], ◌∷◌, ◌++◌, length}
use Rattle.std.proofs.Common.{drop, get_or}
use Rattle.std.proofs.Common.{refl, ap, sym, ◌∙◌, arith, append_assoc, append-nil, drop-cons, replicate}
use Rattle.std.specs.Prelude.{Option, Some, None, Result, Ok, Err, OnOk}
use Rattle.std.proofs.Math.ListN.{drop_of_length-le}
use denote.Ref.{Bor}
use Rattle.std.specs.Option.{unwrap_or, option_copied}
use Rattle.std.specs.Int.{byte_at, bytes_low_first, from_le_bytes, w64}
use Rattle.std.proofs.Math.Nat.{div-div-eq-div-mul, pow-suc}
use denote.Hole.Carrier.{hidden}
use Rattle.ds_ast.specs.declared.name.Name.{Name}
use Rattle.ds_ast.specs.declared.ty.Ty.{Ty}
use Rattle.ds_ast.specs.declared.ty.Ty as ty
use Rattle.ds_ast.specs.declared.ty.Ty.TheBlock.{hidden-the_row-Ty-0}
use Rattle.ds_ast.specs.declared.init.Init.{Init}
use Rattle.ds_ast.specs.declared.init.Init as init
use Rattle.ds_ast.specs.declared.init.Init.TheBlock.{hidden-the_row-Init-0}
use Rattle.ds_ast.specs.declared.module.Module.{Module}
use Rattle.ds_ast.specs.declared.module.StructDef.{StructDef}
use Rattle.ds_ast.specs.Bounds.{element_type, field_types, fields_of}
use Rattle.ds_shape.specs.Image.{zeros, bytes_of, bytes_of_elements, bytes_of_fields, words_of}
use Rattle.ds_shape.specs.Fits.{Fits}
use Rattle.ds_shape.specs.Laws.{ExtentsAreComputed}
use Rattle.ds_shape.specs.Sizes.{Extent, ◌>>=◌, rounded, extent_of, field_offset, offset_of, layout_of}
use Rattle.ds_lower_parts.specs.Bytes.{address_in, elements_bytes, fields_bytes}

elements_row : (m : Module) (of : Option Ty) (parts : List Init)
    → bytes_of_elements m.structs (address_in m) of (hidden-the_row-Init-0 parts) ≡ elements_bytes m of parts
unfolding hidden-the_row-Init-0 hidden
elements_row m of [] = refl
elements_row m None (part ∷ parts) = refl
elements_row m (Some of) (part ∷ parts) =
    ap (λ xs. bytes_of m.structs (address_in m) of part ++ xs) (elements_row m (Some of) parts)

bytes-array : (m : Module) (t : Ty) (parts : List Init)
    → bytes_of m.structs (address_in m) t (init.Array parts) ≡ elements_bytes m (element_type t) parts
bytes-array m t parts = elements_row m (element_type t) parts

fields_row : (m : Module) (size at : ℕ) (types : List Ty) (parts : List Init)
    → bytes_of_fields m.structs (address_in m) size at types (hidden-the_row-Init-0 parts)
    ≡ fields_bytes m size at types parts
unfolding hidden-the_row-Init-0 hidden
fields_row m size at types [] = refl
fields_row m size at [] (part ∷ parts) = refl
fields_row m size at (t ∷ ts) (part ∷ parts) =
    ap (λ xs. zeros (rounded at (layout_of m.structs t).align - at) ++ bytes_of m.structs (address_in m) t part ++ xs)
    (fields_row m size (rounded at (layout_of m.structs t).align + (layout_of m.structs t).size) ts parts)

bytes-fields : (m : Module) (t : Ty) (parts : List Init)
    → bytes_of m.structs (address_in m) t (init.Fields parts)
    ≡ fields_bytes m (layout_of m.structs t).size 0 (unwrap_or (field_types m.structs t) []) parts
bytes-fields m t parts = fields_row m (layout_of m.structs t).size 0 (unwrap_or (field_types m.structs t) []) parts

-- the bytes of parts in square brackets
pub array_bytes : (m : Module) (t : Ty) (i : Init) (slice parts : List Init) → i ≡ init.Array parts → slice ≡ parts
    → elements_bytes m (element_type t) slice ≡ bytes_of m.structs (address_in m) t i
array_bytes m t i slice parts is same =
    ap (λ xs. elements_bytes m (element_type t) xs) same ∙ sym (bytes-array m t parts)
    ∙ ap (λ x. bytes_of m.structs (address_in m) t x) (sym is)

-- and in curly ones
pub struct_bytes : (m : Module) (t : Ty) (i : Init) (slice parts : List Init) → i ≡ init.Fields parts → slice ≡ parts
    → fields_bytes m (layout_of m.structs t).size 0 (unwrap_or (field_types m.structs t) []) slice
    ≡ bytes_of m.structs (address_in m) t i
struct_bytes m t i slice parts is same =
    ap (λ xs. fields_bytes m (layout_of m.structs t).size 0 (unwrap_or (field_types m.structs t) []) xs) same
    ∙ sym (bytes-fields m t parts) ∙ ap (λ x. bytes_of m.structs (address_in m) t x) (sym is)

element_type-array : (n : ℕ) (of : Ty) → element_type (ty.Array n of) ≡ Some of
unfolding hidden-the_row-Ty-0 hidden
element_type-array n of = refl

-- the elements of an array have its type
pub element_is : (t of r : Ty) (n : ℕ) → t ≡ ty.Array n of → r ≡ of → Some r ≡ element_type t
element_is t of r n is same = ap (λ x. Some x) same ∙ sym (ap element_type is ∙ element_type-array n of)

no_elements : (m : Module) (parts : List Init) → elements_bytes m None parts ≡ []
no_elements m [] = refl
no_elements m (part ∷ parts) = refl

-- what has no elements has no bytes
pub nothing_pushed : (m : Module) (xs : List ℕ) (parts : List Init) → xs ≡ xs ++ elements_bytes m None parts
nothing_pushed m xs parts = sym (append-nil xs) ∙ ap (λ ys. xs ++ ys) (sym (no_elements m parts))

-- a struct without fields is zeros
pub zeros_alone : (m : Module) (size : ℕ) (parts : List Init) → zeros size ≡ fields_bytes m size 0 [] parts
zeros_alone m size [] = let e : size ≡ size - 0 = omega arith in ap zeros e
zeros_alone m size (part ∷ parts) = let e : size ≡ size - 0 = omega arith in ap zeros e

-- NUMBERS

byte_by : (i n : ℕ) → byte_at i n ≡ n / 256 ^ i % 256
byte_by zero n = let e : n ≡ n / 1 = grind arith in ap (λ k. k % 256) e
byte_by (suc i) n = refl

-- one byte more
pub low_on : (now next all : List ℕ) (count i number rest : ℕ) → i < count
    → now ++ bytes_low_first i (count - i) number ≡ all → rest ≡ number / 256 ^ i → next ≡ now ++ rest % 256 ∷ []
    → next ++ bytes_low_first (i + 1) (count - (i + 1)) number ≡ all
low_on now next all count i number rest lt h is e =
    let more : count - i ≡ suc (count - suc i) = omega arith in
    let one : i + 1 ≡ suc i = omega arith in
    let byte : rest % 256 ≡ byte_at i number = ap (λ k. k % 256) is ∙ sym (byte_by i number) in
    ap (λ xs. xs ++ bytes_low_first (i + 1) (count - (i + 1)) number) e
    ∙ ap (λ j. (now ++ rest % 256 ∷ []) ++ bytes_low_first j (count - j) number) one
    ∙ append_assoc now (rest % 256 ∷ []) (bytes_low_first (suc i) (count - suc i) number)
    ∙ ap (λ b. now ++ b ∷ bytes_low_first (suc i) (count - suc i) number) byte
    ∙ sym (ap (λ k. now ++ bytes_low_first i k number) more) ∙ h

pub rest_on : (number i rest next : ℕ) → rest ≡ number / 256 ^ i → next ≡ rest / 256 → next ≡ number / 256 ^ (i + 1)
rest_on number i rest next is e =
    let one : i + 1 ≡ suc i = omega arith in
    e ∙ ap (λ k. k / 256) is ∙ div-div-eq-div-mul number (256 ^ i) 256
    ∙ ap (λ k. number / k) (sym (pow-suc 256 i)) ∙ ap (λ j. number / 256 ^ j) (sym one)

-- ZEROS

zeros_none : zeros 0 ≡ []
unfolding zeros
zeros_none = refl

zero_more : (n z : ℕ) → replicate n z ++ z ∷ [] ≡ z ∷ replicate n z
zero_more zero z = refl
zero_more (suc n) z = ap (λ xs. z ∷ xs) (zero_more n z)

zeros_more : (n : ℕ) → let z : ℕ = 0 in zeros n ++ z ∷ [] ≡ zeros (suc n)
unfolding zeros
zeros_more n = zero_more n 0

pub no_zeros : (xs : List ℕ) → xs ≡ xs ++ zeros 0
no_zeros xs = sym (append-nil xs) ∙ ap (λ ys. xs ++ ys) (sym zeros_none)

pub zeros_on : (before now next : List ℕ) (i : ℕ) → now ≡ before ++ zeros i → next ≡ now ++ 0 ∷ []
    → next ≡ before ++ zeros (i + 1)
zeros_on before now next i h e =
    let one : suc i ≡ i + 1 = omega arith in
    e ∙ ap (λ xs. xs ++ 0 ∷ []) h ∙ append_assoc before (zeros i) (0 ∷ [])
    ∙ ap (λ xs. before ++ xs) (zeros_more i ∙ ap zeros one)

-- one word more
pub words_on : (now next all rest rest' : List ℕ) (count i word : ℕ) → i < count
    → now ++ words_of (count - i) rest ≡ all → next ≡ now ++ word ∷ [] → word ≡ from_le_bytes w64 rest
    → rest' ≡ drop 8 rest → next ++ words_of (count - (i + 1)) rest' ≡ all
words_on now next all rest rest' count i word lt h e is past =
    let more : count - i ≡ suc (count - (i + 1)) = omega arith in
    ap (λ xs. xs ++ words_of (count - (i + 1)) rest') e
    ∙ append_assoc now (word ∷ []) (words_of (count - (i + 1)) rest')
    ∙ ap (λ w. now ++ w ∷ words_of (count - (i + 1)) rest') is
    ∙ ap (λ xs. now ++ from_le_bytes w64 rest ∷ words_of (count - (i + 1)) xs) past
    ∙ sym (ap (λ k. now ++ words_of k rest) more) ∙ h

-- FIELDS

drop_on : {A : Type 0} (xs : List A) (n : ℕ) (x : A) → n < length xs → x ≡ get_or xs n x → drop n xs
    ≡ x ∷ drop (n + 1) xs
drop_on xs n x lt is =
    let one : suc n ≡ n + 1 = omega arith in
    drop-cons xs n x lt ∙ ap (λ y. y ∷ drop (suc n) xs) (sym is) ∙ ap (λ k. x ∷ drop k xs) one

-- a type that fits has the extent that is computed
extent_is : (structs : List StructDef) (t : Ty) → ExtentsAreComputed → Fits structs t
    → extent_of structs t ≡ Some (layout_of structs t)
extent_is structs t law fits =
    let e = (law structs t fits.0).0 fits.1 in
    e ∙ sym (ap (λ (o : Option Extent). Some (unwrap_or o (record { size = 0; align = 1 }))) e)

-- one field more
module _ (m : Module) (types : List Ty) (parts : List Init) (at n offset size : ℕ) (t : Ty) (part : Init)
    (law : ExtentsAreComputed) (fits : Fits m.structs t) (in_types : n < length types) (in_parts : n < length parts)
    (is_type : t ≡ get_or types n t) (is_part : part ≡ get_or parts n part)
    (begin : (k : ℕ) → field_offset (extent_of m.structs) at k (drop n types)
    ≡ field_offset (extent_of m.structs) 0 (n + k) types) where
  abbrev layout : Extent
  layout = layout_of m.structs t

  pub offset_is : (name : Name) → fields_of m.structs name ≡ Some types
      → offset ≡ unwrap_or (offset_of m.structs name n) 0 → offset ≡ rounded at layout.align
  offset_is name named e =
      let z : n ≡ n + 0 = omega arith in
      e ∙ ap (λ (o : Option (List Ty)). unwrap_or (o >>= field_offset (extent_of m.structs) 0 n) 0) named
      ∙ ap (λ k. unwrap_or (field_offset (extent_of m.structs) 0 k types) 0) z
      ∙ ap (λ o. unwrap_or o 0) (sym (begin 0))
      ∙ ap (λ ts. unwrap_or (field_offset (extent_of m.structs) at 0 ts) 0) (drop_on types n t in_types is_type)
      ∙ ap (λ (o : Option Extent). unwrap_or (o >>= (λ (x : Extent). Some (rounded at x.align))) 0)
      (extent_is m.structs t law fits)

  pub begin_on : (after : ℕ) → after ≡ rounded at layout.align + layout.size → (k : ℕ)
      → field_offset (extent_of m.structs) after k (drop (n + 1) types)
      ≡ field_offset (extent_of m.structs) 0 (n + 1 + k) types
  begin_on after e k =
      let s : n + suc k ≡ n + 1 + k = omega arith in
      ap (λ a. field_offset (extent_of m.structs) a k (drop (n + 1) types)) e
      ∙ sym (ap (λ (o : Option Extent). o >>= (λ (x : Extent).
      field_offset (extent_of m.structs) (rounded at x.align + x.size) k (drop (n + 1) types)))
      (extent_is m.structs t law fits))
      ∙ sym (ap (λ ts. field_offset (extent_of m.structs) at (suc k) ts) (drop_on types n t in_types is_type))
      ∙ begin (suc k) ∙ ap (λ j. field_offset (extent_of m.structs) 0 j types) s

  pub field_on : (now padded next all : List ℕ) (after : ℕ)
      → now ++ fields_bytes m size at (drop n types) (drop n parts) ≡ all
      → offset ≡ rounded at layout.align → padded ≡ now ++ zeros (offset - at)
      → next ≡ padded ++ bytes_of m.structs (address_in m) t part → after ≡ offset + layout.size
      → next ++ fields_bytes m size after (drop (n + 1) types) (drop (n + 1) parts) ≡ all
  field_on now padded next all after h is pad e end =
      let rest = fields_bytes m size (rounded at layout.align + layout.size) (drop (n + 1) types) (drop (n + 1) parts)
      in
      let gap = zeros (rounded at layout.align - at) in
      let field = bytes_of m.structs (address_in m) t part in
      ap (λ xs. xs ++ fields_bytes m size after (drop (n + 1) types) (drop (n + 1) parts)) e
      ∙ ap (λ a. (padded ++ field) ++ fields_bytes m size a (drop (n + 1) types) (drop (n + 1) parts))
      (end ∙ ap (λ o. o + layout.size) is)
      ∙ ap (λ xs. (xs ++ field) ++ rest) (pad ∙ ap (λ o. now ++ zeros (o - at)) is)
      ∙ ap (λ xs. xs ++ rest) (append_assoc now gap field)
      ∙ append_assoc now (gap ++ field) rest
      ∙ sym (ap (λ ts. now ++ fields_bytes m size at ts (drop n parts)) (drop_on types n t in_types is_type)
      ∙ ap (λ ps. now ++ fields_bytes m size at (t ∷ drop (n + 1) types) ps) (drop_on parts n part in_parts is_part))
      ∙ h

-- behind the last type stand zeros
pub fields_end : (m : Module) (size at n : ℕ) (types : List Ty) (parts : List Init) → length types ≤ n
    → fields_bytes m size at (drop n types) parts ≡ zeros (size - at)
fields_end m size at n types parts le =
    ap (λ ts. fields_bytes m size at ts parts) (drop_of_length-le types le) ∙ alone parts
  where
    alone : (ps : List Init) → fields_bytes m size at [] ps ≡ zeros (size - at)
    alone [] = refl
    alone (p ∷ ps) = refl

-- and so behind the last part
pub parts_end : (m : Module) (size at n : ℕ) (types : List Ty) (parts : List Init) → length parts ≤ n
    → fields_bytes m size at types (drop n parts) ≡ zeros (size - at)
parts_end m size at n types parts le = ap (λ ps. fields_bytes m size at types ps) (drop_of_length-le parts le)

-- the last zeros end all
pub ended : {A E : Type 0} (r : Result A E) (m : Module) (name : Name) (now new old : List ℕ) (gap size at : ℕ)
    (tail : List ℕ) (types : List Ty) (parts : List Init) (found : Option (Bor (List Ty))) (there : Bor (List Ty))
    → option_copied found ≡ fields_of m.structs name → found ≡ Some there → there.now ≡ types
    → tail ≡ zeros (size - at) → gap ≡ size - at → now ++ tail ≡ old ++ fields_bytes m size 0 types parts
    → OnOk r (new ≡ now ++ zeros gap)
    → OnOk r (new ≡ old ++ fields_bytes m size 0 (unwrap_or (fields_of m.structs name) []) parts)
ended (Err e) m name now new old gap size at tail types parts found there is some same end left h made = made
ended (Ok x) m name now new old gap size at tail types parts found there is some same end left h made =
    made ∙ ap (λ k. now ++ zeros k) left ∙ ap (λ xs. now ++ xs) (sym end) ∙ h
    ∙ ap (λ (o : Option (List Ty)). old ++ fields_bytes m size 0 (unwrap_or o []) parts)
    (sym (sym is ∙ ap option_copied some ∙ ap (λ (ts : List Ty). Some ts) same))

-- a type that is no struct's has no fields
pub no_fields : {A E : Type 0} (r : Result A E) (m : Module) (new old : List ℕ) (size n : ℕ) (types : List Ty)
    (parts : List Init) → types ≡ [] → n ≡ size → OnOk r (new ≡ old ++ zeros n)
    → OnOk r (new ≡ old ++ fields_bytes m size 0 types parts)
no_fields (Err e) m new old size n types parts none is made = made
no_fields (Ok x) m new old size n types parts none is made =
    made ∙ ap (λ k. old ++ zeros k) is ∙ ap (λ xs. old ++ xs) (zeros_alone m size parts)
    ∙ ap (λ (ts : List Ty). old ++ fields_bytes m size 0 ts parts) (sym none)

pub no_fields-array : (structs : List StructDef) (n : ℕ) (of : Ty)
    → unwrap_or (field_types structs (ty.Array n of)) [] ≡ []
unfolding hidden-the_row-Ty-0 hidden
no_fields-array structs n of = refl
