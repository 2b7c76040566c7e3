-- The fields that are kept beside names, with one line more and at the place of a name.
use Rattle.std.proofs.Common.{◌≡◌, ℕ, suc, ◌+◌, ◌<◌, ◌≤◌, List, [], ◌∷◌, ◌++◌, length, take, get_or, refl, sym, subst}
use Rattle.std.proofs.Common.{◌∙◌, ap, inl, inr, arith}
use Rattle.std.specs.Prelude.{Option, Some, None, IfSome, MatchOption, slice_get, option_map, Bool, true, false}
use Rattle.std.specs.Prelude.{if◌then◌else◌}
use Rattle.std.specs.Option.{option_copied}
use Rattle.std.proofs.lemmas.Option.{slice_get_read, slice_get_past}
use Rattle.std.proofs.lemmas.List.{take_more, length-append}
use denote.Ref.{Bor}
use Rattle.ds_ast.specs.declared.name.Name.{Name}
use Rattle.ds_ast.specs.declared.ty.Ty.{Ty}
use Rattle.ds_ast.specs.declared.module.StructDef.{StructDef}
use Rattle.ds_ast.specs.Bounds.{is_name, fields_of}
use Rattle.ds_names.specs.Names.{Among, place_of}
use Rattle.ds_print.specs.Lines.{fields_beside, Kept}

-- the first, if there is one, and else the second
abbrev either : Option (List Ty) → Option (List Ty) → Option (List Ty)
either None other = other
either (Some fields) other = Some fields

past : (b : Bool) (x : List Ty) (o p r : Option (List Ty)) → r ≡ either o p
    → (if b then Some x else r) ≡ either (if b then Some x else o) p
past true x o p r e = refl
past false x o p r e = e

or_none : (o : Option (List Ty)) → either o None ≡ o
or_none None = refl
or_none (Some x) = refl

twice : (b : Bool) (x y : List Ty) (o : Option (List Ty))
    → either (if b then Some x else o) (if b then Some y else None) ≡ (if b then Some x else o)
twice true x y o = refl
twice false x y o = or_none o

keep : (b : Bool) (x : List Ty) (o p : Option (List Ty)) → either o p ≡ o
    → either (if b then Some x else o) p ≡ (if b then Some x else o)
keep true x o p e = refl
keep false x o p e = e

-- one line more
line_behind : (lines : List StructDef) (line : StructDef) (q : Name)
    → fields_of (lines ++ line ∷ []) q ≡ either (fields_of lines q)
    (if is_name line.name q then Some line.fields else None)
line_behind [] line q = refl
line_behind (l ∷ lines) line q = past (is_name l.name q) l.fields (fields_of lines q) _ _ (line_behind lines line q)

-- one name more, with its fields beside it
name_behind : (names : List Name) (fields : List (Bor (List Ty))) (n : Name) (f : Bor (List Ty)) (q : Name)
    → length names ≡ length fields
    → fields_beside (names ++ n ∷ []) (fields ++ f ∷ []) q
    ≡ either (fields_beside names fields q) (if is_name n q then Some f.now else None)
name_behind [] [] n f q e = refl
name_behind [] (g ∷ fields) n f q e = absurd (omega (arith, e))
name_behind (m ∷ names) [] n f q e = absurd (omega (arith, e))
name_behind (m ∷ names) (g ∷ fields) n f q e =
    past (is_name m q) g.now (fields_beside names fields q) _ _ (name_behind names fields n f q (omega (arith, e)))

-- a name that stands there has fields already
name_there : (names : List Name) (fields : List (Bor (List Ty))) (n : Name) (x : List Ty) (q : Name)
    → length names ≡ length fields → Among n names
    → either (fields_beside names fields q) (if is_name n q then Some x else None) ≡ fields_beside names fields q
name_there [] fields n x q e a = absurd a
name_there (m ∷ names) [] n x q e a = absurd (omega (arith, e))
name_there (m ∷ names) (g ∷ fields) n x q e (inl same) =
    let P : Name → Type 0 =
    λ k. either (fields_beside (m ∷ names) (g ∷ fields) q) (if is_name k q then Some x else None)
    ≡ fields_beside (m ∷ names) (g ∷ fields) q in
    subst P same (twice (is_name m q) g.now x (fields_beside names fields q))
name_there (m ∷ names) (g ∷ fields) n x q e (inr later) =
    keep (is_name m q) g.now (fields_beside names fields q) _ (name_there names fields n x q (omega (arith, e)) later)

counted : {A B : Type 0} (xs : List A) (ys : List B) (x : A) (y : B) → length xs ≡ length ys
    → length (xs ++ x ∷ []) ≡ length (ys ++ y ∷ [])
counted xs ys x y e = length-append xs (x ∷ []) ∙ ap (λ n. n + 1) e ∙ sym (length-append ys (y ∷ []))

-- one line more, whose name is new
pub kept_new : (line : StructDef) (names more_names : List Name) (fields more_fields : List (Bor (List Ty)))
    (f : Bor (List Ty)) → more_names ≡ names ++ line.name ∷ [] → more_fields ≡ fields ++ f ∷ [] → f.now ≡ line.fields
    → (lines : List StructDef) → Kept names fields lines → Kept more_names more_fields (lines ++ line ∷ [])
kept_new line names more_names fields more_fields f named beside same lines kept = (
  ap (λ ns. length ns) named ∙ counted names fields line.name f kept.0 ∙ sym (ap (λ fs. length fs) beside),
  λ q. ap (λ ns. fields_beside ns more_fields q) named ∙ ap (λ fs. fields_beside (names ++ line.name ∷ []) fs q) beside
      ∙ name_behind names fields line.name f q kept.0
      ∙ ap (λ o. either o (if is_name line.name q then Some f.now else None)) (kept.1 q)
      ∙ ap (λ x. either (fields_of lines q) (if is_name line.name q then Some x else None)) same
      ∙ sym (line_behind lines line q),
)

-- one line more, whose name stands there
pub kept_there : (line : StructDef) (names more_names : List Name) (fields more_fields : List (Bor (List Ty)))
    → Among line.name names → more_names ≡ names → more_fields ≡ fields
    → (lines : List StructDef) → Kept names fields lines → Kept more_names more_fields (lines ++ line ∷ [])
kept_there line names more_names fields more_fields among named beside lines kept = (
  ap (λ ns. length ns) named ∙ kept.0 ∙ sym (ap (λ fs. length fs) beside),
  λ q. ap (λ ns. fields_beside ns more_fields q) named ∙ ap (λ fs. fields_beside names fs q) beside
      ∙ sym (name_there names fields line.name line.fields q kept.0 among)
      ∙ ap (λ o. either o (if is_name line.name q then Some line.fields else None)) (kept.1 q)
      ∙ sym (line_behind lines line q),
)

-- the lines up to a place and the one there
pub kept_on : (lines : List StructDef) (i : ℕ) (line : StructDef) (names : List Name) (fields : List (Bor (List Ty)))
    → i < length lines → line ≡ get_or lines i line
    → Kept names fields (take i lines ++ line ∷ []) → Kept names fields (take (i + 1) lines)
kept_on lines i line names fields inside is kept =
    let there : take i lines ++ line ∷ [] ≡ take (i + 1) lines =
    ap (λ (l : StructDef). take i lines ++ l ∷ []) is ∙ sym (take_more lines i line inside) in
    let P : List StructDef → Type 0 = λ ls. Kept names fields ls in
    subst P there kept

-- what stands at a place, if there is one
abbrev at_place : Option ℕ → List (Bor (List Ty)) → Option (List Ty)
at_place None fields = None
at_place (Some i) fields = option_copied (slice_get fields i)

next : (b : Bool) (g : Bor (List Ty)) (fields : List (Bor (List Ty))) (o : Option ℕ) (r : Option (List Ty))
    → r ≡ at_place o fields
    → (if b then Some g.now else r) ≡ at_place (if b then Some 0 else option_map suc o) (g ∷ fields)
next true g fields o r e = refl
next false g fields None r e = e
next false g fields (Some i) r e = e

-- what is beside a name stands at its place
pub beside_at : (names : List Name) (fields : List (Bor (List Ty))) (q : Name) → length names ≡ length fields
    → fields_beside names fields q ≡ at_place (place_of names q) fields
beside_at [] fields q e = refl
beside_at (m ∷ names) [] q e = absurd (omega (arith, e))
beside_at (m ∷ names) (g ∷ fields) q e =
    next (is_name m q) g fields (place_of names q) _ (beside_at names fields q (omega (arith, e)))

-- the fields at the place of a name are those of its first line
pub placed : (structs lines : List StructDef) (names : List Name) (fields items : List (Bor (List Ty))) (name : Name)
    (found : Option ℕ) (place : ℕ) (o : Option (Bor (List Ty)))
    → Kept names fields structs → structs ≡ lines → found ≡ place_of names name → found ≡ Some place → items ≡ fields
    → o ≡ slice_get items place → option_copied o ≡ fields_of lines name
placed structs lines names fields items name found place o kept all is some same given =
    ap (λ p. option_copied p) given ∙ ap (λ xs. option_copied (slice_get xs place)) same
    ∙ ap (λ p. at_place p fields) (sym some ∙ is)
    ∙ sym (beside_at names fields name kept.0) ∙ kept.1 name ∙ ap (λ ls. fields_of ls name) all

-- a name with no place has no line
pub unplaced : (structs lines : List StructDef) (names : List Name) (fields : List (Bor (List Ty))) (name : Name)
    (found : Option ℕ)
    → Kept names fields structs → structs ≡ lines → found ≡ place_of names name → found ≡ None
    → None ≡ fields_of lines name
unplaced structs lines names fields name found kept all is none =
    ap (λ p. at_place p fields) (sym none ∙ is) ∙ sym (beside_at names fields name kept.0) ∙ kept.1 name
    ∙ ap (λ ls. fields_of ls name) all

-- what a slice has at a place
pub got : (types : List Ty) (i : ℕ) (found : Option (Bor Ty)) (Q : Bor Ty → Type 0)
    → IfSome found (λ x. x.now ≡ get_or types i x.now)
    → MatchOption found (length types ≤ i) (λ x. (i < length types) × Q x)
    → option_copied found ≡ slice_get types i
got types i None Q a b = sym (slice_get_past types i b)
got types i (Some x) Q a b = sym (slice_get_read types (length types) i x.now refl b.0 a)
