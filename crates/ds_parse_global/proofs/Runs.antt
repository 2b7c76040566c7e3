-- How lists are read one item behind the other.
use Rattle.std.proofs.Common.{◌≡◌, ℕ, Bool, List, [], length, sym, ◌∙◌}
use Rattle.std.specs.Prelude.{Option, Ok, Some, None}
use Rattle.ds_ast.specs.declared.ty.Ty.{Ty}
use Rattle.ds_ast.specs.declared.init.Init.{Init}
use Rattle.ds_grammar.specs.Sort.{a_flag, a_ty, an_init, a_number, both_of, list_of, maybe}
use Rattle.ds_grammar.specs.Grammar.{Grammar, Loop}
use Rattle.ds_grammar.specs.Reading.{Place, first_value, past, value_at}
use Rattle.ds_grammar.specs.Laws.{RunsTakeItems, RunsEnd}
use Rattle.ds_grammar.specs.Globals.{next_type, types_more, next_element, one_element, elements, fields, field_at}

-- the types behind these
abbrev pub types_from : List Ty → Grammar (list_of a_ty)
types_from ts = Loop (maybe (both_of (maybe a_ty) a_number)) (λ ts t. next_type ts t.kind t.bytes t.at) types_more ts

pub types_go_on : RunsTakeItems → (ts us : List Ty) (item : Option (Option Ty × ℕ)) (p q : Place)
    → first_value (λ t. next_type ts t.kind t.bytes t.at) p.left ≡ Some item
    → value_at (types_more ts item) (past p) ≡ Ok (us, q) → value_at (types_from ts) p ≡ value_at (types_from us) q
types_go_on law ts us item p q first rest =
    law (list_of a_ty) (maybe (both_of (maybe a_ty) a_number))
    (λ ts t. next_type ts t.kind t.bytes t.at) types_more ts us item p q first rest

module _ (inner : Ty → Grammar an_init) where
  -- the elements behind these, each of the one type
  abbrev pub elements_from : Option Ty → List Init → Grammar (list_of an_init)
  elements_from t parts = Loop a_flag (λ parts u. next_element parts t u.kind u.bytes)
      (λ parts is_first. one_element inner parts is_first t) parts

  pub elements_go_on : RunsTakeItems → (t : Option Ty) (parts more : List Init) (is_first : Bool) (p q : Place)
      → first_value (λ u. next_element parts t u.kind u.bytes) p.left ≡ Some is_first
      → value_at (one_element inner parts is_first t) (past p) ≡ Ok (more, q)
      → value_at (elements_from t parts) p ≡ value_at (elements_from t more) q
  elements_go_on law t parts more is_first p q first rest =
      law (list_of an_init) a_flag (λ parts u. next_element parts t u.kind u.bytes)
      (λ parts is_first. one_element inner parts is_first t) parts more is_first p q first rest

  -- where no element begins, these are all
  pub elements_end : RunsEnd → (t : Option Ty) (parts : List Init) (p q : Place)
      → value_at (elements_from t parts) q ≡ value_at (elements_from t []) p
      → first_value (λ u. next_element parts t u.kind u.bytes) q.left ≡ None
      → value_at (elements inner t) p ≡ Ok (parts, q)
  unfolding elements
  elements_end law t parts p q same none =
      sym same ∙ law (list_of an_init) a_flag (λ parts u. next_element parts t u.kind u.bytes)
      (λ parts is_first. one_element inner parts is_first t) parts q none

  -- the elements behind these, each of the type at its place
  abbrev pub fields_from : List Ty → List Init → Grammar (list_of an_init)
  fields_from ts parts =
      Loop a_flag (λ parts u. next_element parts (field_at ts (length parts)) u.kind u.bytes)
      (λ parts is_first. one_element inner parts is_first (field_at ts (length parts))) parts

  pub fields_go_on : RunsTakeItems → (ts : List Ty) (parts more : List Init) (is_first : Bool) (p q : Place)
      → first_value (λ u. next_element parts (field_at ts (length parts)) u.kind u.bytes) p.left ≡ Some is_first
      → value_at (one_element inner parts is_first (field_at ts (length parts))) (past p) ≡ Ok (more, q)
      → value_at (fields_from ts parts) p ≡ value_at (fields_from ts more) q
  fields_go_on law ts parts more is_first p q first rest =
      law (list_of an_init) a_flag (λ parts u. next_element parts (field_at ts (length parts)) u.kind u.bytes)
      (λ parts is_first. one_element inner parts is_first (field_at ts (length parts)))
      parts more is_first p q first rest

  pub fields_end : RunsEnd → (ts : List Ty) (parts : List Init) (p q : Place)
      → value_at (fields_from ts parts) q ≡ value_at (fields_from ts []) p
      → first_value (λ u. next_element parts (field_at ts (length parts)) u.kind u.bytes) q.left ≡ None
      → value_at (fields inner ts) p ≡ Ok (parts, q)
  unfolding fields
  fields_end law ts parts p q same none =
      sym same ∙ law (list_of an_init) a_flag (λ parts u. next_element parts
      (field_at ts (length parts)) u.kind u.bytes) (λ parts is_first. one_element inner parts is_first
      (field_at ts (length parts)))
      parts q none
