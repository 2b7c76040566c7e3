-- Initialisers are read back.
use Rattle.std.proofs.Common.{◌≡◌, ℕ, suc, ◌≤◌, true, false, cond, List, [], ◌∷◌, ◌++◌, length, map, refl, sym, ap}
use Rattle.std.proofs.Common.{◌∙◌, subst, arith, append_assoc, append-nil, length-append, le_trans}
use Rattle.std.proofs.Math.Nat.{le-max_left, le-max_right}
use Rattle.std.specs.Prelude.{All, Option, Some, None, codes}
use Rattle.ds_lex.specs.Written.{Piece}
use Rattle.ds_lex.specs.declared.token.TokenKind.TheVariants as kind
use Rattle.ds_ast.specs.declared.ty.Ty.{Ty, Void, Struct}
use Rattle.ds_ast.specs.declared.ty.Ty as ty
use Rattle.ds_ast.specs.declared.init.Init.{Init}
use Rattle.ds_ast.specs.declared.init.Init.TheBlock.{hidden-the_row-Init-0}
use denote.Hole.Carrier.{hidden}
use Rattle.ds_ast.specs.declared.module.StructDef.{StructDef}
use Rattle.ds_ast.specs.Bounds.{IsType, Fits, brackets}
use Rattle.ds_ast.specs.Equations.{greatest, AllFit, FitTypes}
use Rattle.ds_grammar.specs.Sort.{a_flag, an_init, list_of}
use Rattle.ds_grammar.specs.Grammar.{Grammar, Loop}
use Rattle.ds_grammar.specs.Globals.{is_type_front, next_element, one_element, field_at, initialiser, init_rest}
use Rattle.ds_grammar.specs.Globals.{or_none}
use Rattle.ds_grammar.specs.Globals as globals
use Rattle.ds_print.specs.Names as print
use Rattle.ds_print.specs.Canonical.{type_pieces, more_listed, listed_behind_space, element_front, or_void}
use Rattle.ds_print.specs.Canonical.{first_type, more_types, init_pieces, elements, more_elements, fields}
use Rattle.ds_print.specs.Canonical.{more_fields}
use Rattle.ds_print_laws.proofs.Gets.{Known, Gets, gap, done, run_end, run_item, read_from, ◌⨾◌}
use Rattle.ds_print_laws.proofs.Alls.{all_first, all_rest}
use Rattle.ds_print_laws.proofs.Types.{regroup}
use Rattle.ds_print_laws.proofs.Lists.{read_as, behind_these}
use Rattle.ds_print_laws.proofs.Fronts.{IsFront, type_front, same_type_read}

-- THE PIECES of elements, by their list
module _ (structs : List StructDef) where
  -- an element behind its type
  abbrev pub element_pieces : Option Ty → Init → List Piece
  element_pieces t i = element_front t ++ init_pieces structs (or_void t) i

  abbrev pub more_field_pieces : List Ty → List Init → List Piece
  more_field_pieces ts [] = []
  more_field_pieces ts (i ∷ is) =
      print.punct "," ∷ print.space ∷ element_pieces (first_type ts) i ++ more_field_pieces (more_types ts) is

  abbrev pub field_pieces : List Ty → List Init → List Piece
  field_pieces ts [] = []
  field_pieces ts (i ∷ is) = print.space ∷ element_pieces (first_type ts) i ++ more_field_pieces (more_types ts) is

  more_elements-list : (t : Option Ty) (is : List Init)
      → more_elements structs t (hidden-the_row-Init-0 is) ≡ more_listed (map (element_pieces t) is)
  unfolding hidden-the_row-Init-0 hidden
  more_elements-list t [] = refl
  more_elements-list t (i ∷ is) =
      ap (λ ps. print.punct "," ∷ print.space ∷ element_pieces t i ++ ps) (more_elements-list t is)

  pub elements-list : (t : Option Ty) (is : List Init)
      → elements structs t (hidden-the_row-Init-0 is) ≡ listed_behind_space (map (element_pieces t) is)
  unfolding hidden-the_row-Init-0 hidden
  elements-list t [] = refl
  elements-list t (i ∷ is) = ap (λ ps. print.space ∷ element_pieces t i ++ ps) (more_elements-list t is)

  more_fields-list : (ts : List Ty) (is : List Init)
      → more_fields structs ts (hidden-the_row-Init-0 is) ≡ more_field_pieces ts is
  unfolding hidden-the_row-Init-0 hidden
  more_fields-list ts [] = refl
  more_fields-list ts (i ∷ is) = ap (λ ps. print.punct "," ∷ print.space ∷ element_pieces (first_type ts) i ++ ps)
      (more_fields-list (more_types ts) is)

  pub fields-list : (ts : List Ty) (is : List Init) → fields structs ts (hidden-the_row-Init-0 is) ≡ field_pieces ts is
  unfolding hidden-the_row-Init-0 hidden
  fields-list ts [] = refl
  fields-list ts (i ∷ is) =
      ap (λ ps. print.space ∷ element_pieces (first_type ts) i ++ ps) (more_fields-list (more_types ts) is)

  -- the initialisers that the grammar reads, where so many brackets may be open
  abbrev pub ReadsInits : (Ty → Grammar an_init) → ℕ → Type 0
  ReadsInits inner n = (t : Ty) (i : Init) (ps : List Piece) → IsType t → Fits structs t i → brackets i ≤ n
      → Gets (inner t) (init_pieces structs t i ++ ps) i ps

-- no type begins with a bracket that closes
no_square : (t : Ty) → is_type_front t kind.Punct (codes "]") ≡ false
no_square Void = refl
no_square (ty.One s) = refl
no_square (Struct name) = refl
no_square (ty.Array' n shape of) = refl

no_curly : (t : Ty) → is_type_front t kind.Punct (codes "}") ≡ false
no_curly Void = refl
no_curly (ty.One s) = refl
no_curly (Struct name) = refl
no_curly (ty.Array' n shape of) = refl

-- the type behind so many
field_behind : (before ts : List Ty) → field_at (before ++ ts) (length before) ≡ first_type ts
field_behind [] [] = refl
field_behind [] (t ∷ ts) = refl
field_behind (t ∷ before) ts = field_behind before ts

no_field : (ts : List Ty) → next_element [] (field_at ts 0) kind.Punct (codes "}") ≡ None
no_field [] = refl
no_field (t ∷ ts) = ap (λ b. cond b (Some true) None) (no_curly t)

module _ (known : Known) (structs : List StructDef) (inner : Ty → Grammar an_init) (n : ℕ)
    (reads : ReadsInits structs inner n) where
  -- an element behind a comma
  element_read : (acc : List Init) (t : Ty) (i : Init) (ps : List Piece) → IsType t → Fits structs t i → brackets i ≤ n
      → Gets (one_element inner acc false (Some t)) (element_pieces structs (Some t) i ++ ps) (acc ++ i ∷ []) ps
  element_read acc t i ps it fits le =
      regroup (type_pieces t ++ print.space ∷ []) (init_pieces structs t i) ps
      (regroup (type_pieces t) (print.space ∷ []) _
      (same_type_read known t _ it ⨾ (gap (reads t i ps it fits le) ⨾ done (acc ++ i ∷ []) ps)))

  abbrev elements_from : Option Ty → List Init → Grammar (list_of an_init)
  elements_from t acc = Loop a_flag (λ parts u. next_element parts t u.kind u.bytes)
      (λ parts is_first. one_element inner parts is_first t) acc

  more_elements_read : (t : Ty) (first : Init) (acc is : List Init) (ps : List Piece) → IsType t
      → AllFit structs (Some t) is → greatest (map brackets is) ≤ n
      → Gets (elements_from (Some t) (first ∷ acc))
      (more_listed (map (element_pieces structs (Some t)) is) ++ print.space ∷ print.punct "]" ∷ ps)
      (first ∷ (acc ++ is)) (print.space ∷ print.punct "]" ∷ ps)
  more_elements_read t first acc [] ps it fits le = read_as (first ∷ acc) (first ∷ (acc ++ []))
      (ap (λ xs. first ∷ xs) (sym (append-nil acc))) (run_end known (λ at. refl))
  more_elements_read t first acc (i ∷ is) ps it fits le =
      run_item known (λ at. false) (λ at. refl)
      (λ at. gap (regroup (element_pieces structs (Some t) i)
      (more_listed (map (element_pieces structs (Some t)) is)) _
      (element_read (first ∷ acc) t i _ it fits.0 (le_trans
      (le-max_left (brackets i) (greatest (map brackets is))) le))))
      (read_as (first ∷ ((acc ++ i ∷ []) ++ is)) (first ∷ (acc ++ i ∷ is))
      (ap (λ xs. first ∷ xs) (behind_these i acc is))
      (more_elements_read t first (acc ++ i ∷ []) is ps it fits.1
      (le_trans (le-max_right (brackets i) (greatest (map brackets is))) le)))

  -- the first element, whose first token has been read
  first_read : (t : Ty) (i : Init) (ps : List Piece) (f : IsFront t (print.space ∷ init_pieces structs t i ++ ps))
      → Fits structs t i → IsType t → brackets i ≤ n
      → Gets (one_element inner [] true (Some t)) f.rest (i ∷ []) ps
  first_read t i ps f fits it le = f.read ⨾ (gap (reads t i ps it fits le) ⨾ done (i ∷ []) ps)

  -- pieces of a first element, as its type, a space, its own and those behind it
  first_order : (t : Ty) (i : Init) (more ps : List Piece)
      → (element_pieces structs (Some t) i ++ more) ++ ps ≡ type_pieces t
      ++ (print.space ∷ init_pieces structs t i ++ (more ++ ps))
  first_order t i more ps =
      append_assoc (element_pieces structs (Some t) i) more ps
      ∙ (append_assoc (type_pieces t ++ print.space ∷ []) (init_pieces structs t i) (more ++ ps)
      ∙ append_assoc (type_pieces t) (print.space ∷ []) (init_pieces structs t i ++ (more ++ ps)))

  -- the elements of an array
  pub elements_read : (t : Option Ty) (is : List Init) (ps : List Piece) → ((u : Ty) → t ≡ Some u → IsType u)
      → AllFit structs t is → greatest (map brackets is) ≤ n
      → Gets (globals.elements inner t) (listed_behind_space (map (element_pieces structs t) is)
      ++ print.space ∷ print.punct "]" ∷ ps) is (print.space ∷ print.punct "]" ∷ ps)
  unfolding globals.elements
  elements_read None [] ps it fits le = run_end known (λ at. refl)
  elements_read (Some t) [] ps it fits le = run_end known (λ at. ap (λ b. cond b (Some true) None) (no_square t))
  elements_read None (i ∷ is) ps it fits le = absurd fits
  elements_read (Some t) (i ∷ is) ps it fits le =
      let is_type = it t refl in
      let more = more_listed (map (element_pieces structs (Some t)) is) in
      let rest = print.space ∷ print.punct "]" ∷ ps in
      let f = type_front known t (print.space ∷ init_pieces structs t i ++ (more ++ rest)) is_type in
      gap (read_from _ _ (first_order t i more rest ∙ f.whole)
      (run_item known (λ at. true) (λ at. ap (λ b. cond b (Some true) None) f.is_front)
      (λ at. first_read t i _ f fits.0 is_type (le_trans (le-max_left (brackets i) (greatest (map brackets is))) le))
      (more_elements_read t i [] is ps is_type fits.1
      (le_trans (le-max_right (brackets i) (greatest (map brackets is))) le))))

  abbrev fields_from : List Ty → List Init → Grammar (list_of an_init)
  fields_from ts acc = Loop a_flag (λ parts u. next_element parts (field_at ts (length parts)) u.kind u.bytes)
      (λ parts is_first. one_element inner parts is_first (field_at ts (length parts))) acc

  more_fields_read : (all before ts : List Ty) (first : Init) (acc is : List Init) (ps : List Piece)
      → all ≡ before ++ ts → length before ≡ suc (length acc) → All IsType ts → FitTypes structs (Some ts) is
      → greatest (map brackets is) ≤ n
      → Gets (fields_from all (first ∷ acc)) (more_field_pieces structs ts is ++ print.space ∷ print.punct "}" ∷ ps)
      (first ∷ (acc ++ is)) (print.space ∷ print.punct "}" ∷ ps)
  more_fields_read all before ts first acc [] ps e l its fits le = read_as (first ∷ acc) (first ∷ (acc ++ []))
      (ap (λ xs. first ∷ xs) (sym (append-nil acc))) (run_end known (λ at. refl))
  more_fields_read all before [] first acc (i ∷ is) ps e l its fits le = absurd fits
  more_fields_read all before (t ∷ ts) first acc (i ∷ is) ps e l its fits le =
      let at_place : field_at all (suc (length acc)) ≡ Some t = ap (λ xs. field_at xs (suc (length acc))) e
      ∙ (ap (field_at (before ++ t ∷ ts)) (sym l) ∙ field_behind before (t ∷ ts)) in
      let longer : length (before ++ t ∷ []) ≡ suc (length (acc ++ i ∷ [])) =
      omega (arith, l, length-append before (t ∷ []), length-append acc (i ∷ [])) in
      run_item known (λ at. false) (λ at. refl)
      (λ at. gap (regroup (element_pieces structs (Some t) i) (more_field_pieces structs ts is) _
      (subst (λ u. Gets (one_element inner (first ∷ acc) false u)
      (element_pieces structs (Some t) i ++ (more_field_pieces structs ts is ++ print.space ∷ print.punct "}" ∷ ps))
      ((first ∷ acc) ++ i ∷ []) (more_field_pieces structs ts is ++ print.space ∷ print.punct "}" ∷ ps)) (sym at_place)
      (element_read (first ∷ acc) t i _ (all_first IsType t ts its) fits.0
      (le_trans (le-max_left (brackets i) (greatest (map brackets is))) le)))))
      (read_as (first ∷ ((acc ++ i ∷ []) ++ is)) (first ∷ (acc ++ i ∷ is))
      (ap (λ xs. first ∷ xs) (behind_these i acc is))
      (more_fields_read all (before ++ t ∷ []) ts first (acc ++ i ∷ []) is ps
      (e ∙ sym (behind_these t before ts)) longer (all_rest IsType t ts its) fits.1
      (le_trans (le-max_right (brackets i) (greatest (map brackets is))) le)))

  -- the fields of a struct
  pub fields_read : (ts : List Ty) (is : List Init) (ps : List Piece) → All IsType ts → FitTypes structs (Some ts) is
      → greatest (map brackets is) ≤ n
      → Gets (globals.fields inner ts) (field_pieces structs ts is ++ print.space ∷ print.punct "}" ∷ ps) is
      (print.space ∷ print.punct "}" ∷ ps)
  unfolding globals.fields
  fields_read ts [] ps its fits le = run_end known (λ at. no_field ts)
  fields_read [] (i ∷ is) ps its fits le = absurd fits
  fields_read (t ∷ ts) (i ∷ is) ps its fits le =
      let is_type = all_first IsType t ts its in
      let more = more_field_pieces structs ts is in
      let rest = print.space ∷ print.punct "}" ∷ ps in
      let f = type_front known t (print.space ∷ init_pieces structs t i ++ (more ++ rest)) is_type in
      gap (read_from _ _ (first_order t i more rest ∙ f.whole)
      (run_item known (λ at. true) (λ at. ap (λ b. cond b (Some true) None) f.is_front)
      (λ at. first_read t i _ f fits.0 is_type (le_trans (le-max_left (brackets i) (greatest (map brackets is))) le))
      (more_fields_read (t ∷ ts) (t ∷ []) ts i [] is ps refl refl (all_rest IsType t ts its) fits.1
      (le_trans (le-max_right (brackets i) (greatest (map brackets is))) le))))
