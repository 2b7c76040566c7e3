-- The walk of an address's indices, step by step.
use Rattle.std.proofs.Common.{◌≡◌, ◌↔◌, ℕ, zero, suc, ◌<◌, ◌≤◌, ◌+◌, List, [], ◌∷◌, ◌++◌, length, drop, get_or, Option, true≢false}
use Rattle.std.proofs.Common.{Some, None, slice_get, refl, sym, ◌∙◌, subst, ap}
use Rattle.std.proofs.lemmas.List.{drop_more, drop_all}
use Rattle.std.proofs.lemmas.Option.{none-some}
use Rattle.std.specs.Option.{unwrap_or}
use Rattle.std.specs.Prelude.{is_some, IsSome, option_map, option_and_then}
use Rattle.ds_ast.specs.declared.name.Name.{Name}
use Rattle.ds_ast.specs.declared.ty.Scalar.{Scalar}
use Rattle.ds_ast.specs.declared.ty.Scalar.TheVariants.{I1, I8, I16, I32, I64, Ptr}
use Rattle.ds_ast.specs.declared.ty.Ty.{Ty, Void, One, Struct, Array', more_of-Ty, end_of-Ty}
use Rattle.ds_ast.specs.declared.ty.Ty as ty
use Rattle.ds_ast.specs.declared.ty.Ty.TheBlock.{hidden-the_row-Ty-0}
use Rattle.ds_ast.specs.declared.value.Value.{Value}
use Rattle.ds_ast.specs.declared.value.Value.TheVariants.{Int, Null, Undef, Local, Global}
use Rattle.ds_ast.specs.declared.operand.Operand.{Operand}
use Rattle.ds_ast.specs.declared.module.Module.{Module}
use Rattle.ds_ast.specs.declared.module.StructDef.{StructDef}
use Rattle.ds_ast.specs.Bounds.{fields_of}
use Rattle.ds_shape.specs.Sizes.{offset_of}
use Rattle.ds_shape.specs.Address.{Step, field_number, field_step, step_into, steps_into}
use Rattle.ds_shape.specs.Types.{Walks}
use Rattle.ds_check_types.specs.Walking.{literal, numbered, next_field, next_type}
use denote.Hole.Carrier.{hidden}

-- an array's elements
pub next_type-array : (structs : List StructDef) (n : ℕ) (of : Ty) (i : Operand)
    → next_type structs (ty.Array n of) i ≡ Some of
unfolding hidden-the_row-Ty-0 hidden
next_type-array structs n of i = refl

unsome : {A : Type 0} (x y : A) → Some x ≡ Some y → x ≡ y
unsome x y same = ap (λ o. unwrap_or o x) same

none_is_some : {A : Type 0} (x : A) → None ≡ Some x → ⊥
none_is_some x same = none-some x same

-- a literal of i32 names a field
literal_is_number : (s : Scalar) (v : Value) → literal s v ≡ field_number s v
literal_is_number I1 v = refl
literal_is_number I8 v = refl
literal_is_number I16 v = refl
literal_is_number I32 (Int n) = refl
literal_is_number I32 Null = refl
literal_is_number I32 Undef = refl
literal_is_number I32 (Local name) = refl
literal_is_number I32 (Global name) = refl
literal_is_number I64 v = refl
literal_is_number Ptr v = refl

-- the field of this number, where there are fields
abbrev field_in : Option (List Ty) → Option ℕ → Option Ty
field_in None n = None
field_in (Some fields) n = numbered fields n

field_in_same : (of : Option (List Ty)) (i : Operand) → next_field of i ≡ field_in of (literal i.ty i.value)
field_in_same None i = refl
field_in_same (Some fields) i = refl

-- the type of a step
abbrev next_of : Option Step → Option Ty
next_of o = option_map (λ (s : Step). s.next) o

-- the step to a field leads to its type
to_type : (step : Ty → Step) → ((t : Ty) → (step t).next ≡ t) → (o : Option Ty)
    → o ≡ next_of (option_and_then (λ t. Some (step t)) o)
to_type step is None = refl
to_type step is (Some t) = ap Some (sym (is t))

field_stepped : (structs : List StructDef) (name : Name) (of : Option (List Ty)) (n : Option ℕ)
    → fields_of structs name ≡ of → field_in of n ≡ next_of (option_and_then (field_step structs name) n)
field_stepped structs name None None is = refl
field_stepped structs name None (Some n) is = rw is refl
field_stepped structs name (Some fields) None is = refl
field_stepped structs name (Some fields) (Some n) is =
    let step : Ty → Step = λ t. record { next = t; fixed = unwrap_or (offset_of structs name n) 0; scale = 0 } in
    let of : Option (List Ty) → Option Ty = λ o. next_of
    (option_and_then (λ (fs : List Ty). option_and_then (λ t. Some (step t)) (slice_get fs n)) o) in
    to_type step (λ t. refl) (slice_get fields n) ∙ ap of (sym is)

-- the next type is that of the step
pub next_is : (structs : List StructDef) (t : Ty) (i : Operand)
    → next_type structs t i ≡ next_of (step_into structs t i)
next_is structs Void i = refl
next_is structs (One s) i = refl
next_is structs (Array' count _ (more_of-Ty of end_of-Ty)) i = refl
next_is structs (Struct name) i =
    field_in_same (fields_of structs name) i
    ∙ (ap (field_in (fields_of structs name)) (literal_is_number i.ty i.value)
    ∙ field_stepped structs name (fields_of structs name) (field_number i.ty i.value) refl)

-- whether there is a value does not change with the value
mapped : {A B : Type 0} (f : A → B) (o : Option A) → is_some (option_map f o) ≡ is_some o
mapped f None = refl
mapped f (Some x) = refl

-- steps behind one that leads to a type
behind : (structs : List StructDef) (o : Option Step) (is : List Operand) (next : Ty) → next_of o ≡ Some next
    → is_some (option_and_then (λ (s : Step). option_map (λ ss. s ∷ ss) (steps_into structs s.next is)) o)
    ≡ is_some (steps_into structs next is)
behind structs None is next leads = absurd (none_is_some next leads)
behind structs (Some s) is next leads =
    mapped (λ ss. s ∷ ss) (steps_into structs s.next is)
    ∙ ap (λ t. is_some (steps_into structs t is)) (unsome s.next next leads)

nowhere : (structs : List StructDef) (o : Option Step) (is : List Operand) → next_of o ≡ None
    → IsSome (option_and_then (λ (s : Step). option_map (λ ss. s ∷ ss) (steps_into structs s.next is)) o) → ⊥
nowhere structs None is leads there = true≢false (sym there)
nowhere structs (Some s) is leads there = none_is_some s.next (sym leads)

module _ (m : Module) where
  pub walks_on : (t next : Ty) (i : Operand) (is : List Operand) → next_type m.structs t i ≡ Some next
      → Walks m t (i ∷ is) ↔ Walks m next is
  walks_on t next i is one =
      let same = behind m.structs (step_into m.structs t i) is next (sym (next_is m.structs t i) ∙ one) in
      (λ w. sym same ∙ w, λ w. same ∙ w)

  pub walks_nowhere : (t : Ty) (i : Operand) (is : List Operand) → next_type m.structs t i ≡ None → Walks m t (i ∷ is)
      → ⊥
  walks_nowhere t i is none w = nowhere m.structs (step_into m.structs t i) is (sym (next_is m.structs t i) ∙ none) w

  -- the walk from an index on
  from : (is : List Operand) (k : ℕ) (i : Operand) → k < length is → i ≡ get_or is k i
      → drop k is ≡ i ∷ drop (k + 1) is
  from is k i in_range same = drop_more is k i in_range ∙ ap (λ j. j ∷ drop (k + 1) is) (sym same)

  pub walks_from : (t next : Ty) (is : List Operand) (k : ℕ) (i : Operand) → k < length is → i ≡ get_or is k i
      → next_type m.structs t i ≡ Some next
      → Walks m t (drop k is) ↔ Walks m next (drop (k + 1) is)
  walks_from t next is k i in_range same one =
      let on = walks_on t next i (drop (k + 1) is) one in (
        λ w. on.0 (subst (Walks m t) (from is k i in_range same) w),
        λ w. subst (Walks m t) (sym (from is k i in_range same)) (on.1 w),
      )

  pub stops_at : (t : Ty) (is : List Operand) (k : ℕ) (i : Operand) → k < length is → i ≡ get_or is k i
      → next_type m.structs t i ≡ None → Walks m t (drop k is) → ⊥
  stops_at t is k i in_range same none w =
      walks_nowhere t i (drop (k + 1) is) none (subst (Walks m t) (from is k i in_range same) w)

  pub walks_to_the_end : (t : Ty) (is : List Operand) (k : ℕ) → length is ≤ k → Walks m t (drop k is)
  walks_to_the_end t is k past = subst (Walks m t) (sym (drop_all k is past)) refl
