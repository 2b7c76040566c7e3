-- Whole initialisers are read back, by how many brackets may be open.
use Rattle.std.proofs.Common.{◌≡◌, ℕ, zero, suc, ◌≤◌, ◌^◌, Bool, true, false, cond, List, [], ◌∷◌, ◌++◌, map, refl}
use Rattle.std.proofs.Common.{sym, ap, ◌∙◌, subst, arith, append_assoc}
use Rattle.std.specs.Prelude.{All, Option, Some, None}
use Rattle.std.proofs.lemmas.List.Elements.{All-nil}
use Rattle.ds_lex.specs.Written.{Piece}
use Rattle.ds_ast.specs.declared.name.Name.{Name}
use Rattle.ds_ast.specs.declared.ty.Ty.{Ty, Void, One, Struct, Array', more_of-Ty, end_of-Ty}
use Rattle.ds_ast.specs.declared.init.Init.{Init, Zero, Word}
use Rattle.ds_ast.specs.declared.init.Init as init
use Rattle.ds_ast.specs.declared.value.Value.{Value}
use Rattle.ds_ast.specs.declared.module.StructDef.{StructDef}
use Rattle.ds_ast.specs.Bounds.{IsType, IsStruct, Fits, brackets, counts, element_type, field_types, fields_of}
use Rattle.ds_ast.specs.Bounds.{is_name}
use Rattle.ds_ast.specs.Equations.{greatest, brackets-array, brackets-fields, FitTypes, fits-array, fits-fields}
use Rattle.ds_grammar.specs.declared.item.InitHead.TheVariants as head
use Rattle.ds_grammar.specs.Tokens.{range_mark}
use Rattle.ds_grammar.specs.Globals.{has_fields, initialiser, init_head}
use Rattle.ds_grammar.specs.Globals as globals
use Rattle.ds_print.specs.Names as print
use Rattle.ds_print.specs.Canonical.{listed_behind_space, init_pieces}
use Rattle.ds_print.specs.Canonical as canon
use Rattle.ds_print_laws.proofs.Gets.{Known, Gets, gap, done, one, one_at, marked, read_from, ◌⨾◌}
use Rattle.ds_print_laws.proofs.Alls.{all_first, all_rest}
use Rattle.ds_print_laws.proofs.Rowed.{array_items, field_items}
use Rattle.ds_print_laws.proofs.Constants.{BeginsWith, constant_begins}
use Rattle.ds_print_laws.proofs.Inits.{element_pieces, field_pieces, elements-list, fields-list, ReadsInits}
use Rattle.ds_print_laws.proofs.Inits.{elements_read, fields_read}

-- the type of the elements of an array is a type
pub element_is_type : (t : Ty) → IsType t → (u : Ty) → element_type t ≡ Some u → IsType u
element_is_type Void h u e = absurd cc
element_is_type (One s) h u e = absurd cc
element_is_type (Struct name) h u e = absurd cc
element_is_type (Array' n _ (more_of-Ty of end_of-Ty)) h u e =
    let same : of ≡ u = cc in
    let depth = h.depth in
    subst IsType same (record {
      depth = omega (arith, depth);
      elements = all_rest (λ count. count ≤ 2 ^ 31) n
          (counts of) h.elements;
      name = h.name;
    })

module _ (structs : List StructDef) where
  -- the types of a struct's fields are types
  by_line : (is_this : Bool) (here : List Ty) (others : Option (List Ty)) → All IsType here
      → ((ts : List Ty) → others ≡ Some ts → All IsType ts) → (ts : List Ty)
      → cond is_this (Some here) others ≡ Some ts → All IsType ts
  by_line true here others h k ts e = let same : here ≡ ts = cc in subst (All IsType) same h
  by_line false here others h k ts e = k ts e

  field_are_types : (lines : List StructDef) (name : Name) → All IsStruct lines → (ts : List Ty)
      → fields_of lines name ≡ Some ts → All IsType ts
  field_are_types [] name h ts e = absurd cc
  field_are_types (line ∷ lines) name h ts e =
      by_line (is_name line.name name) line.fields (fields_of lines name) (all_first IsStruct line lines h).fields
      (λ us f. field_are_types lines name (all_rest IsStruct line lines h) us f) ts e

  no_fields : (ts : List Ty) → ◌≡◌ {A = Option (List Ty)} (Some []) (Some ts) → All IsType ts
  no_fields ts e = let same : [] ≡ ts = cc in subst (All IsType) same (All-nil IsType)

  pub fields_are_types : (t : Ty) → All IsStruct structs → (ts : List Ty) → field_types structs t ≡ Some ts
      → All IsType ts
  fields_are_types Void h ts e = no_fields ts e
  fields_are_types (One s) h ts e = no_fields ts e
  fields_are_types (Array' n shape of) h ts e = no_fields ts e
  fields_are_types (Struct name) h ts e = field_are_types structs name h ts e

module _ (known : Known) (structs : List StructDef) (structs_are : All IsStruct structs) where
  -- what an initialiser gives where it may be written and its brackets may be open
  abbrev Given : ℕ → Ty → Init → List Piece → Type 0
  Given n t i ps =
      Fits structs t i → brackets i ≤ n → Gets (initialiser structs n t) (init_pieces structs t i ++ ps) i ps

  zero_read : (n : ℕ) (t : Ty) (ps : List Piece)
      → Gets (initialiser structs n t) (print.word "zeroinitializer" ∷ ps) Zero ps
  unfolding initialiser
  zero_read zero t ps = one_at (λ at. (head.Zero, range_mark at true)) (λ at. refl) (λ at. marked refl (done Zero ps))
  zero_read (suc n) t ps =
      one_at (λ at. (head.Zero, range_mark at true)) (λ at. refl) (λ at. marked refl (done Zero ps))

  word_by : (n : ℕ) (t : Ty) (v : Value) (p : Piece) (ps : List Piece) → BeginsWith structs t v p
      → Gets (initialiser structs n t) (p ∷ ps) (Word v) ps
  unfolding initialiser
  word_by zero t v p ps b = read_from _ _ (ap (λ p. p ∷ ps) b.whole)
      (one_at (λ at. (head.Word v, b.mark at)) b.begins (λ at. marked (b.within at) (done (Word v) ps)))
  word_by (suc n) t v p ps b = read_from _ _ (ap (λ p. p ∷ ps) b.whole)
      (one_at (λ at. (head.Word v, b.mark at)) b.begins (λ at. marked (b.within at) (done (Word v) ps)))

  module _ (n : ℕ) (reads : ReadsInits structs (initialiser structs n) n) where
    array_read : (t : Ty) (is : List Init) (ps : List Piece) → IsType t → Given (suc n) t (init.Array is) ps
    unfolding initialiser
    array_read t is ps it fits le =
        let equation = brackets-array is in
        read_from _ _ (ap (λ es. (print.punct "[" ∷ es ++ print.space ∷ print.punct "]" ∷ []) ++ ps)
        (elements-list structs (element_type t) is)
        ∙ ap (λ xs. print.punct "[" ∷ xs) (append_assoc
        (listed_behind_space (map (element_pieces structs (element_type t)) is))
        (print.space ∷ print.punct "]" ∷ []) ps))
        (one_at (λ at. (head.Array, range_mark at true)) (λ at. refl) (λ at. marked refl
        (elements_read known structs (initialiser structs n) n reads (element_type t) is ps (element_is_type t it)
        ((fits-array structs t is).0 fits) (omega (arith, le, equation))
        ⨾ gap (one {v = tt} (λ at. refl) ⨾ done (init.Array is) ps))))

    fields_by : (t : Ty) (is : List Init) (ps : List Piece) (found : Option (List Ty)) → field_types structs t ≡ found
        → FitTypes structs found is → greatest (map brackets is) ≤ n
        → Gets (initialiser structs (suc n) t) (print.punct "{" ∷ field_pieces structs
        (canon.or_none (field_types structs t)) is ++ print.space ∷ print.punct "}" ∷ ps) (init.Fields is) ps
    unfolding initialiser
    fields_by t is ps None e fits le = absurd fits
    fields_by t is ps (Some ts) e fits le =
        read_from _ _ (ap (λ found. print.punct "{" ∷ field_pieces structs
        (canon.or_none found) is ++ print.space ∷ print.punct "}" ∷ ps) e)
        (one_at (λ at. (head.Fields, range_mark at true))
        (λ at. ap (λ b. cond b (Some (head.Fields, range_mark at true)) None) (ap has_fields e)) (λ at. marked refl
        (subst (λ us. Gets (globals.fields (initialiser structs n) us)
        (field_pieces structs ts is ++ print.space ∷ print.punct "}" ∷ ps) is (print.space ∷ print.punct "}" ∷ ps))
        (sym (ap globals.or_none e))
        (fields_read known structs (initialiser structs n) n reads ts is ps
        (fields_are_types structs t structs_are ts e) fits le)
        ⨾ gap (one {v = tt} (λ at. refl) ⨾ done (init.Fields is) ps))))

    fields_init_read : (t : Ty) (is : List Init) (ps : List Piece) → IsType t → Given (suc n) t (init.Fields is) ps
    fields_init_read t is ps it fits le =
        let equation = brackets-fields is in
        read_from _ _ (ap (λ es. (print.punct "{" ∷ es ++ print.space ∷ print.punct "}" ∷ []) ++ ps)
        (fields-list structs (canon.or_none (field_types structs t)) is)
        ∙ ap (λ xs. print.punct "{" ∷ xs) (append_assoc
        (field_pieces structs (canon.or_none (field_types structs t)) is) (print.space ∷ print.punct "}" ∷ []) ps))
        (fields_by t is ps (field_types structs t) refl ((fits-fields structs t is).0 fits)
        (omega (arith, le, equation)))

  no_bracket : (t : Ty) (is : List Init) (ps : List Piece) → Given zero t (init.Array is) ps
  no_bracket t is ps fits le = let equation = brackets-array is in absurd (omega (arith, le, equation))

  no_curly_bracket : (t : Ty) (is : List Init) (ps : List Piece) → Given zero t (init.Fields is) ps
  no_curly_bracket t is ps fits le = let equation = brackets-fields is in absurd (omega (arith, le, equation))

  -- every initialiser is read
  pub initialiser_read : (n : ℕ) → ReadsInits structs (initialiser structs n) n
  initialiser_read n t Zero ps it fits le = zero_read n t ps
  initialiser_read n t (Word v) ps it fits le = word_by n t v _ ps (constant_begins structs known t v fits.0 fits.1)
  initialiser_read zero t (init.Array' shape row) ps it fits le =
      let x = array_items shape row in subst (λ i. Given zero t i ps) (sym x.1) (no_bracket t x.0 ps) fits le
  initialiser_read zero t (init.Fields' shape row) ps it fits le =
      let x = field_items shape row in subst (λ i. Given zero t i ps) (sym x.1) (no_curly_bracket t x.0 ps) fits le
  initialiser_read (suc n) t (init.Array' shape row) ps it fits le = let x = array_items shape row in
      subst (λ i. Given (suc n) t i ps) (sym x.1) (array_read n (initialiser_read n) t x.0 ps it) fits le
  initialiser_read (suc n) t (init.Fields' shape row) ps it fits le = let x = field_items shape row in
      subst (λ i. Given (suc n) t i ps) (sym x.1) (fields_init_read n (initialiser_read n) t x.0 ps it) fits le
