-- Initialisers and globals are within their bounds, whatever struct lines stand behind those that are known.
use Rattle.std.proofs.Common.{◌≡◌, ℕ, zero, suc, ◌<◌, ◌≤◌, ◌^◌, Bool, true, false, cond, ◌&&◌, List, [], ◌∷◌, ◌++◌}
use Rattle.std.proofs.Common.{length, map, refl, sym, subst, arith}
use Rattle.std.specs.Prelude.{All, Option, Some, None, option_map, codes, drop}
use Rattle.std.specs.Str.{bytes_eq}
use Rattle.std.proofs.lemmas.List.Elements.{All-head, All-tail, All-drop}
use Rattle.ds_lex.specs.Number.{number_of}
use Rattle.ds_lex.specs.declared.token.TokenKind.{TokenKind}
use Rattle.ds_lex.specs.declared.token.TokenKind.TheVariants as kind
use Rattle.ds_ast.specs.declared.name.Name.{Name}
use Rattle.ds_ast.specs.declared.ty.Scalar.{Scalar}
use Rattle.ds_ast.specs.declared.ty.Scalar.TheVariants.{I8}
use Rattle.ds_ast.specs.declared.ty.Ty.{Ty, Void, Struct, Array'}
use Rattle.ds_ast.specs.declared.ty.Ty as ty
use Rattle.ds_ast.specs.declared.value.Value.{Value}
use Rattle.ds_ast.specs.declared.value.Value.TheVariants as value
use Rattle.ds_ast.specs.declared.init.Init.{Init}
use Rattle.ds_ast.specs.declared.init.Init as init
use Rattle.ds_ast.specs.declared.module.StructDef.{StructDef}
use Rattle.ds_ast.specs.declared.module.GlobalDef.{GlobalDef}
use Rattle.ds_ast.specs.Bounds.{IsName, IsValue, IsConstant, IsStruct, IsGlobal, width, width_at, element_type}
use Rattle.ds_ast.specs.Bounds.{field_types, fields_of, is_name, Fits, brackets}
use Rattle.ds_ast.specs.Equations.{greatest, AllFit, FitTypes, brackets-array, brackets-fields, fits-array}
use Rattle.ds_ast.specs.Equations.{fits-fields}
use Rattle.ds_grammar.specs.declared.fault.Mark.{Mark}
use Rattle.ds_grammar.specs.declared.item.InitHead.{InitHead}
use Rattle.ds_grammar.specs.declared.item.InitHead.TheVariants as head
use Rattle.ds_grammar.specs.Sort.{an_init}
use Rattle.ds_grammar.specs.Grammar.{Grammar}
use Rattle.ds_grammar.specs.Texts.{text_of}
use Rattle.ds_grammar.specs.Tokens.{value_of, value_words, lookup, range_mark, literal, with_range, token_name}
use Rattle.ds_grammar.specs.Rows.{is_punct}
use Rattle.ds_grammar.specs.Globals.{literal_type, constant, is_byte, is_bytes, has_fields, init_head, too_deep}
use Rattle.ds_grammar.specs.Globals.{one_element, field_at, or_none, array_of_bytes, init_rest, init_leaf}
use Rattle.ds_grammar.specs.Globals.{initialiser, global_line, struct_line}
use Rattle.ds_grammar.specs.Globals as globals
use Rattle.ds_parse_laws.proofs.Within.{Within, done, one, never, skip, marked, run, ◌⨾◌}
use Rattle.ds_parse_laws.proofs.Leaves.{mapped, value_is, text_is}
use Rattle.ds_parse_laws.proofs.Types.{any_type_within, types_within}
use Rattle.ds_parse_laws.proofs.Rows.{in_table}

-- CONSTANTS

abbrev IsFixed : Ty → Value → Type 0
IsFixed t v = IsConstant v × IsValue (width_at t) v

width_of_literal : (t : Ty) → width (literal_type t) ≡ width_at t
width_of_literal Void = refl
width_of_literal (ty.One s) = refl
width_of_literal (Array' n shape of) = refl
width_of_literal (Struct name) = refl

fixed_word : (s : Scalar) (bs : List ℕ) (at : ℕ) (v : Value × Mark) → value_of s kind.Word bs at ≡ Some v
    → IsConstant v.0
fixed_word s bs at v e =
    let (w, i, same) = mapped (with_range at) (lookup (value_words s) bs) v e in
    subst (λ (v : Value × Mark). IsConstant v.0) (sym same)
    (in_table (λ (w : Value × Bool). IsConstant w.0) (value_words s) bs w (tt, (tt, (tt, (tt, tt)))) i)

fixed : (s : Scalar) (k : TokenKind) (bs : List ℕ) (at : ℕ) (v : Value × Mark) → (k ≡ kind.Local → ⊥)
    → value_of s k bs at ≡ Some v → IsConstant v.0
fixed s kind.Number bs at v no_local e = let (n, i, same) = mapped (literal s bs at) (number_of bs) v e in
    subst (λ (v : Value × Mark). IsConstant v.0) (sym same) tt
fixed s kind.Word bs at v no_local e = fixed_word s bs at v e
fixed s kind.Local bs at v no_local e = absurd (no_local refl)
fixed s kind.Global bs at v no_local e =
    let (n, i, same) = mapped (λ n. (value.Global n, range_mark at true)) (token_name bs) v e in
    subst (λ (v : Value × Mark). IsConstant v.0) (sym same) tt
fixed s other bs at v no_local e = absurd (cc (e))

fixed_value : (t : Ty) (k : TokenKind) (bs : List ℕ) (at : ℕ) (v : Value × Mark) → All (λ b. b < 2 ^ 8) bs
    → (k ≡ kind.Local → ⊥) → value_of (literal_type t) k bs at ≡ Some v → IsFixed t v.0
fixed_value t k bs at v h no_local e = (
  fixed (literal_type t) k bs at v no_local e,
  subst (λ w. IsValue w v.0) (width_of_literal t)
      (value_is (literal_type t) k bs at v h e),
)

constant_is : (t : Ty) (k : TokenKind) (bs : List ℕ) (at : ℕ) (v : Value × Mark) → All (λ b. b < 2 ^ 8) bs
    → constant t k bs at ≡ Some v → IsFixed t v.0
constant_is t kind.Local bs at v h e = absurd (cc (e))
constant_is t other bs at v h e = fixed_value t other bs at v h (λ e. cc (e)) e

-- LISTS OF ELEMENTS

greatest_more : (ns : List ℕ) (k n : ℕ) → greatest ns ≤ k → n ≤ k → greatest (ns ++ n ∷ []) ≤ k
greatest_more [] k n h le = omega (arith, h, le)
greatest_more (m ∷ ns) k n h le = let r = greatest_more ns k n (omega (arith, h)) le in omega (arith, h, r)

deepest_more : (parts : List Init) (k : ℕ) (i : Init) → greatest (map brackets parts) ≤ k → brackets i ≤ k
    → greatest (map brackets (parts ++ i ∷ [])) ≤ k
deepest_more [] k i h le = omega (arith, h, le)
deepest_more (p ∷ parts) k i h le = let r = deepest_more parts k i (omega (arith, h)) le in omega (arith, h, r)

-- structs are those that are known where the initialiser stands, and all those of the module
module _ (structs all : List StructDef) (kept : (t : Ty) (ts : List Ty) → field_types structs t ≡ Some ts
    → field_types all t ≡ Some ts) where
  -- the initialiser fits the type, with so many brackets at most
  abbrev pub Stands : ℕ → Ty → Init → Type 0
  Stands n t i = Fits all t i × (brackets i ≤ n)

  -- what an initialiser begins with
  abbrev IsHead : Ty → InitHead → Type 0
  IsHead t head.Zero = Unit {0}
  IsHead t (head.Word v) = IsFixed t v
  IsHead t (head.Bytes bs) = (is_bytes (element_type t) ≡ true) × All (λ b. b < 2 ^ 8) bs
  IsHead t head.Array = Unit {0}
  IsHead t head.Fields = has_fields (field_types structs t) ≡ true

  head_word : (t : Ty) (o : Option (Value × Mark)) (v : InitHead × Mark)
      → ((f : Value × Mark) → o ≡ Some f → IsFixed t f.0)
      → option_map (λ found. (head.Word found.0, found.1)) o ≡ Some v → IsHead t v.0
  head_word t o v h e =
      let (f, i, same) = mapped (λ (found : Value × Mark). (head.Word found.0, found.1)) o v e in
      subst (λ (v : InitHead × Mark). IsHead t v.0) (sym same) (h f i)

  head_text : (t : Ty) (bs : List ℕ) (at : ℕ) (v : InitHead × Mark) → All (λ b. b < 2 ^ 8) bs
      → init_head structs t kind.CText bs at ≡ Some v → IsHead t v.0
  head_text t bs at v h e = by (is_bytes (element_type t)) refl e
    where
      by : (c : Bool) → is_bytes (element_type t) ≡ c
          → cond c (Some (head.Bytes (text_of (drop 1 bs)), range_mark at true)) None ≡ Some v → IsHead t v.0
      by true i e =
          let same : (head.Bytes (text_of (drop 1 bs)), range_mark at true) ≡ v = cc (e) in
          subst (λ (v : InitHead × Mark). IsHead t v.0) same
          (i, text_is (drop 1 bs) (All-drop (λ b. b < 2 ^ 8) 1 bs h))
      by false i e = absurd (cc (e))

  head_bracket : (t : Ty) (bs : List ℕ) (at : ℕ) (v : InitHead × Mark) → init_head structs t kind.Punct bs at ≡ Some v
      → IsHead t v.0
  head_bracket t bs at v e = by (is_punct (codes "[") kind.Punct bs) (is_punct (codes "{") kind.Punct bs)
      (has_fields (field_types structs t)) refl e
    where
      by : (a b f : Bool) → has_fields (field_types structs t) ≡ f
          → cond a (Some (head.Array, range_mark at true))
          (cond (b && f) (Some (head.Fields, range_mark at true)) None) ≡ Some v → IsHead t v.0
      by true b f i e = let same : (head.Array, range_mark at true) ≡ v = cc (e) in
          subst (λ (v : InitHead × Mark). IsHead t v.0) same tt
      by false true true i e = let same : (head.Fields, range_mark at true) ≡ v = cc (e) in
          subst (λ (v : InitHead × Mark). IsHead t v.0) same i
      by false true false i e = absurd (cc (e))
      by false false f i e = absurd (cc (e))

  head_is : (t : Ty) (k : TokenKind) (bs : List ℕ) (at : ℕ) (v : InitHead × Mark) → All (λ b. b < 2 ^ 8) bs
      → init_head structs t k bs at ≡ Some v → IsHead t v.0
  head_is t kind.CText bs at v h e = head_text t bs at v h e
  head_is t kind.Punct bs at v h e = head_bracket t bs at v e
  head_is t kind.Word bs at v h e = by (bytes_eq bs (codes "zeroinitializer")) e
    where
      by : (c : Bool) → cond c (Some (head.Zero, range_mark at true))
          (option_map (λ found. (head.Word found.0, found.1)) (constant t kind.Word bs at)) ≡ Some v → IsHead t v.0
      by true e = let same : (head.Zero, range_mark at true) ≡ v = cc (e) in
          subst (λ (v : InitHead × Mark). IsHead t v.0) same tt
      by false e = head_word t (constant t kind.Word bs at) v (λ f i. constant_is t kind.Word bs at f h i) e
  head_is t other bs at v h e = head_word t (constant t other bs at) v (λ f i. constant_is t other bs at f h i) e

  -- BYTES

  flat_bytes : (bs : List ℕ) → greatest (map brackets (map (λ b. init.Word (value.Int b)) bs)) ≡ 0
  flat_bytes [] = refl
  flat_bytes (b ∷ bs) = let r = flat_bytes bs in omega (arith, r)

  bytes_fit : (t : Ty) (bs : List ℕ) → is_byte t ≡ true → All (λ b. b < 2 ^ 8) bs
      → AllFit all (Some t) (map (λ b. init.Word (value.Int b)) bs)
  bytes_fit t [] e h = tt
  bytes_fit (ty.One I8) (b ∷ bs) e h =
      ((tt, All-head (λ b. b < 2 ^ 8) b bs h), bytes_fit (ty.One I8) bs e (All-tail (λ b. b < 2 ^ 8) b bs h))
  bytes_fit other (b ∷ bs) e h = absurd (cc (e))

  all_bytes_fit : (o : Option Ty) (bs : List ℕ) → is_bytes o ≡ true → All (λ b. b < 2 ^ 8) bs
      → AllFit all o (map (λ b. init.Word (value.Int b)) bs)
  all_bytes_fit None bs e h = absurd (cc (e))
  all_bytes_fit (Some t) bs e h = bytes_fit t bs e h

  bytes_stand : (n : ℕ) (t : Ty) (bs : List ℕ) → is_bytes (element_type t) ≡ true → All (λ b. b < 2 ^ 8) bs
      → Stands (suc n) t (array_of_bytes bs)
  bytes_stand n t bs e h = (
    (fits-array all t (map (λ b. init.Word (value.Int b)) bs)).1 (all_bytes_fit (element_type t) bs e h),
    let deep =
        brackets-array (map (λ b. init.Word (value.Int b)) bs) in
        let flat = flat_bytes bs in omega (arith, deep, flat),
  )

  -- ELEMENTS

  all_more : (t : Ty) (parts : List Init) (i : Init) → AllFit all (Some t) parts → Fits all t i
      → AllFit all (Some t) (parts ++ i ∷ [])
  all_more t [] i h f = (f, tt)
  all_more t (p ∷ parts) i h f = (h.0, all_more t parts i h.1 f)

  types_more : (ts : List Ty) (parts : List Init) (t : Ty) (i : Init) → field_at ts (length parts) ≡ Some t
      → FitTypes all (Some ts) parts → Fits all t i → FitTypes all (Some ts) (parts ++ i ∷ [])
  types_more [] parts t i e h f = absurd (cc (e))
  types_more (u ∷ ts) [] t i e h f = let same : t ≡ u = cc (e) in (subst (λ t. Fits all t i) same f, tt)
  types_more (u ∷ ts) (p ∷ parts) t i e h f = (h.0, types_more ts parts t i e h.1 f)

  module _ (n : ℕ) (inner : Ty → Grammar an_init) (inside : (t : Ty) → Within (inner t) (Stands n t)) where
    abbrev Listed : (List Init → Type 0) → List Init → Type 0
    Listed P parts = P parts × (greatest (map brackets parts) ≤ n)

    element_within : (P : List Init → Type 0) (parts : List Init) (first : Bool) (o : Option Ty)
        → ((t : Ty) (i : Init) → o ≡ Some t → Fits all t i → P (parts ++ i ∷ [])) → Listed P parts
        → Within (one_element inner parts first o) (Listed P)
    element_within P parts first None more h = never
    element_within P parts first (Some t) more h =
        skip (λ u. inside t ⨾ (λ i j. done (parts ++ i ∷ []) (more t i refl j.0, deepest_more parts n i h.1 j.1)))

    elements_within : (o : Option Ty) → Within (globals.elements inner o) (Listed (AllFit all o))
    unfolding globals.elements
    elements_within o = run {P = Listed (AllFit all o)} (tt, omega arith)
        (λ parts t first p b e. element_within (AllFit all o) parts first o (more o parts p.0) p)
      where
        more : (o : Option Ty) (parts : List Init) → AllFit all o parts → (t : Ty) (i : Init) → o ≡ Some t
            → Fits all t i → AllFit all o (parts ++ i ∷ [])
        more o parts h t i e f = subst (λ o. AllFit all o (parts ++ i ∷ [])) (sym e)
            (all_more t parts i (subst (λ o. AllFit all o parts) e h) f)

    fields_within : (ts : List Ty) → Within (globals.fields inner ts) (Listed (FitTypes all (Some ts)))
    unfolding globals.fields
    fields_within ts =
        run {P = Listed (FitTypes all (Some ts))} (tt, omega arith)
        (λ parts u first p b e. element_within (FitTypes all (Some ts)) parts first (field_at ts (length parts))
        (λ t i e f. types_more ts parts t i e p.0 f) p)

    known_fields : (o : Option (List Ty)) → has_fields o ≡ true → o ≡ Some (or_none o)
    known_fields None e = absurd (cc (e))
    known_fields (Some ts) e = refl

    rest_within : (t : Ty) (h : InitHead) → IsHead t h → Within (init_rest structs inner t h) (Stands (suc n) t)
    rest_within t head.Zero i = done init.Zero (tt, omega arith)
    rest_within t (head.Word v) i = done (init.Word v) (i, omega arith)
    rest_within t (head.Bytes bs) i = done (array_of_bytes bs) (bytes_stand n t bs i.0 i.1)
    rest_within t head.Array i =
        elements_within (element_type t) ⨾ (λ parts j. skip (λ u. done (init.Array parts) (
          (fits-array all t parts).1 j.0,
          let deep = brackets-array parts in let le = j.1 in omega (arith, deep, le),
        )))
    rest_within t head.Fields i =
        let ts = or_none (field_types structs t) in
        fields_within ts ⨾ (λ parts j. skip (λ u. done (init.Fields parts) (
          (fits-fields all t parts).1 (subst (λ o. FitTypes all o parts)
              (sym (kept t ts (known_fields (field_types structs t) i))) j.0),
          let deep = brackets-fields parts in let le = j.1 in omega (arith, deep, le),
        )))

  leaf_within : (t : Ty) (at : ℕ) (h : InitHead) → IsHead t h → Within (init_leaf at h) (Stands 0 t)
  leaf_within t at head.Zero i = done init.Zero (tt, omega arith)
  leaf_within t at (head.Word v) i = done (init.Word v) (i, omega arith)
  leaf_within t at (head.Bytes bs) i = marked (λ w. never)
  leaf_within t at head.Array i = marked (λ w. never)
  leaf_within t at head.Fields i = marked (λ w. never)

  pub initialiser_within : (n : ℕ) (t : Ty) → Within (initialiser structs n t) (Stands n t)
  unfolding initialiser
  initialiser_within zero t =
      ◌⨾◌ {Q = λ (h : InitHead × Mark). IsHead t h.0} (one (λ u v b e. head_is t u.kind u.bytes u.at v b e))
      (λ h i. marked (λ w. leaf_within t h.1.breach.at h.0 i))
  initialiser_within (suc n) t =
      ◌⨾◌ {Q = λ (h : InitHead × Mark). IsHead t h.0} (one (λ u v b e. head_is t u.kind u.bytes u.at v b e))
      (λ h i. marked (λ w. rest_within n (initialiser structs n) (initialiser_within n) t h.0 i))

-- STRUCT LINES that stand behind others change nothing

first_found : (lines more : List StructDef) (name : Name) (ts : List Ty) → fields_of lines name ≡ Some ts
    → fields_of (lines ++ more) name ≡ Some ts
first_found [] more name ts e = absurd (cc (e))
first_found (line ∷ lines) more name ts e = by (is_name line.name name) e (first_found lines more name ts)
  where
    by : (c : Bool) → cond c (Some line.fields) (fields_of lines name) ≡ Some ts
        → (fields_of lines name ≡ Some ts → fields_of (lines ++ more) name ≡ Some ts)
        → cond c (Some line.fields) (fields_of (lines ++ more) name) ≡ Some ts
    by true e go = e
    by false e go = go e

fields_kept : (structs more : List StructDef) (t : Ty) (ts : List Ty) → field_types structs t ≡ Some ts
    → field_types (structs ++ more) t ≡ Some ts
fields_kept structs more Void ts e = e
fields_kept structs more (ty.One s) ts e = e
fields_kept structs more (Array' n shape of) ts e = e
fields_kept structs more (Struct name) ts e = first_found structs more name ts e

-- GLOBALS AND STRUCT LINES

-- the global is within its bounds, whatever struct lines stand behind these
pub record Lasts (structs : List StructDef) (g : GlobalDef) : Type 0 where
  pub is : (more : List StructDef) → IsGlobal (structs ++ more) g

pub global_within : (structs : List StructDef) (name : Name) → IsName name
    → Within (global_line structs name) (Lasts structs)
unfolding global_line
global_within structs name h =
    skip (λ u. skip (λ u. skip (λ u. any_type_within true ⨾ (λ t i. all_stand t
    ⨾ (λ v j. skip (λ u. done (record { name = name; ty = t; init = v }) (record {
      is = λ more. record { name = h; of_type = i; depth = (j more).1; fits = (j more).0 };
    })))))))
  where
    all_stand : (t : Ty) → Within (initialiser structs 64 t)
        (λ v. (more : List StructDef) → Stands structs (structs ++ more) (fields_kept structs more) 64 t v)
    all_stand t = record {
      is = λ ts behind v ms f w s more.
          (initialiser_within structs (structs ++ more) (fields_kept structs more) 64 t).is ts behind v ms f w s;
    }

pub struct_within : (name : Name) → IsName name → Within (struct_line name) IsStruct
unfolding struct_line
struct_within name h =
    skip (λ u. skip (λ u. skip (λ u. types_within ⨾
    (λ ts i. skip (λ u. done (record { name = name; fields = ts }) (record { name = h; fields = i }))))))
