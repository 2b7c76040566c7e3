-- Initialisers are written apart.
use Rattle.std.proofs.Common.{◌≡◌, List, [], ◌∷◌, ◌++◌, refl}
use Rattle.std.specs.Prelude.{All, Option, Some, None}
use Rattle.ds_lex.specs.Bytes.{class_of}
use Rattle.ds_lex.specs.Written.{Piece}
use Rattle.ds_ast.specs.declared.ty.Scalar.TheVariants.{Ptr}
use Rattle.ds_ast.specs.declared.ty.Ty.{Ty, Void, One, Struct}
use Rattle.ds_ast.specs.declared.ty.Ty as ty
use Rattle.ds_ast.specs.declared.init.Init.{Init, Zero, Word, Array', Fields', Row_of-Init, end_of-Init, more_of-Init}
use Rattle.ds_ast.specs.declared.value.Value.{Value}
use Rattle.ds_ast.specs.declared.module.StructDef.{StructDef}
use Rattle.ds_ast.specs.Bounds.{IsType, IsStruct, IsValue, Fits, FitAll, FitInOrder, width_at, element_type}
use Rattle.ds_ast.specs.Bounds.{field_types}
use Rattle.ds_print.specs.Names.{space, word, punct, value}
use Rattle.ds_print.specs.Canonical.{type_pieces, literal_type, or_none, init_pieces, elements, more_elements, fields}
use Rattle.ds_print.specs.Canonical.{more_fields}
use Rattle.ds_print_laws.proofs.Alls.{all_first, all_rest}
use Rattle.ds_print_laws.proofs.Initialisers.{element_is_type, fields_are_types}
use Rattle.ds_print_laws.proofs.Behind.{Apart, Behind, IsPiece, apart, put, put_all, in_a_row, blank, comma_blank}
use Rattle.ds_print_laws.proofs.Behind.{opening_square, closing_square, opening_curly, closing_curly}
use Rattle.ds_print_laws.proofs.Spelled_names.{Numerals}
use Rattle.ds_print_laws.proofs.Spelled_values.{word_is, value_is}
use Rattle.ds_print_laws.proofs.Apart_ops.{type_is}

zero_is : IsPiece (word "zeroinitializer")
unfolding class_of
zero_is = word_is _ refl

module _ (numerals : Numerals) where
  literal_is : (t : Ty) (v : Value) → IsValue (width_at t) v → IsPiece (value (literal_type t) v)
  literal_is Void v h = value_is numerals Ptr v h
  literal_is (One s) v h = value_is numerals s v h
  literal_is (ty.Array' n shape of) v h = value_is numerals Ptr v h
  literal_is (Struct name) v h = value_is numerals Ptr v h

  -- an element behind its type
  behind_type : (t : Ty) (inner more ps : List Piece) → IsType t → Apart (inner ++ (more ++ ps))
      → Apart ((((type_pieces t ++ space ∷ []) ++ inner) ++ more) ++ ps)
  behind_type t inner more ps h k =
      in_a_row ((type_pieces t ++ space ∷ []) ++ inner) more ps
      (in_a_row (type_pieces t ++ space ∷ []) inner (more ++ ps)
      (in_a_row (type_pieces t) (space ∷ []) (inner ++ (more ++ ps))
      (put_all (type_pieces t) (type_is numerals t h) (blank k))))

  module _ (structs : List StructDef) (structs_are : All IsStruct structs) where
    mutual
      pub init_apart : (t : Ty) (i : Init) (ps : List Piece) → IsType t → Fits structs t i → Behind ps
          → Apart (init_pieces structs t i ++ ps)
      init_apart t Zero ps it fits k = put zero_is k
      init_apart t (Word v) ps it fits k = put (literal_is t v fits.1) k
      init_apart t (Array' shape parts) ps it fits k =
          apart (opening_square (in_a_row (elements structs (element_type t) parts) (space ∷ punct "]" ∷ []) ps
          (apart (elements_apart (element_type t) parts _ (element_is_type t it) fits
          (blank (apart (closing_square (apart k))))))))
      init_apart t (Fields' shape parts) ps it fits k =
          apart (opening_curly (in_a_row (fields structs (or_none (field_types structs t)) parts)
          (space ∷ punct "}" ∷ []) ps
          (apart (fields_apart (field_types structs t) parts _ (fields_are_types structs t structs_are) fits
          (blank (apart (closing_curly (apart k))))))))

      elements_apart : (t : Option Ty) {m : _} (parts : Row_of-Init m) (ps : List Piece)
          → ((u : Ty) → t ≡ Some u → IsType u) → FitAll structs t parts → Behind ps
          → Behind (elements structs t parts ++ ps)
      elements_apart t end_of-Init ps it fits k = k
      elements_apart None (more_of-Init part parts) ps it fits k = absurd fits
      elements_apart (Some u) (more_of-Init part parts) ps it fits k =
          blank (behind_type u (init_pieces structs u part) (more_elements structs (Some u) parts) ps (it u refl)
          (init_apart u part _ (it u refl) fits.0 (more_elements_apart (Some u) parts ps it fits.1 k)))

      more_elements_apart : (t : Option Ty) {m : _} (parts : Row_of-Init m) (ps : List Piece)
          → ((u : Ty) → t ≡ Some u → IsType u) → FitAll structs t parts → Behind ps
          → Behind (more_elements structs t parts ++ ps)
      more_elements_apart t end_of-Init ps it fits k = k
      more_elements_apart None (more_of-Init part parts) ps it fits k = absurd fits
      more_elements_apart (Some u) (more_of-Init part parts) ps it fits k =
          comma_blank (behind_type u (init_pieces structs u part) (more_elements structs (Some u) parts) ps (it u refl)
          (init_apart u part _ (it u refl) fits.0 (more_elements_apart (Some u) parts ps it fits.1 k)))

      fields_apart : (ts : Option (List Ty)) {m : _} (parts : Row_of-Init m) (ps : List Piece)
          → ((us : List Ty) → ts ≡ Some us → All IsType us) → FitInOrder structs ts parts → Behind ps
          → Behind (fields structs (or_none ts) parts ++ ps)
      fields_apart ts end_of-Init ps it fits k = k
      fields_apart None (more_of-Init part parts) ps it fits k = absurd fits
      fields_apart (Some []) (more_of-Init part parts) ps it fits k = absurd fits
      fields_apart (Some (u ∷ us)) (more_of-Init part parts) ps it fits k =
          let is = it (u ∷ us) refl in
          blank (behind_type u (init_pieces structs u part) (more_fields structs us parts) ps
          (all_first IsType u us is)
          (init_apart u part _ (all_first IsType u us is) fits.0
          (more_fields_apart us parts ps (all_rest IsType u us is) fits.1 k)))

      more_fields_apart : (ts : List Ty) {m : _} (parts : Row_of-Init m) (ps : List Piece) → All IsType ts
          → FitInOrder structs (Some ts) parts → Behind ps → Behind (more_fields structs ts parts ++ ps)
      more_fields_apart ts end_of-Init ps it fits k = k
      more_fields_apart [] (more_of-Init part parts) ps it fits k = absurd fits
      more_fields_apart (u ∷ us) (more_of-Init part parts) ps it fits k =
          comma_blank (behind_type u (init_pieces structs u part) (more_fields structs us parts) ps
          (all_first IsType u us it)
          (init_apart u part _ (all_first IsType u us it) fits.0
          (more_fields_apart us parts ps (all_rest IsType u us it) fits.1 k)))
