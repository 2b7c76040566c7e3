-- A map whose keys are read as bytes, and the places of names.
use Rattle.std.proofs.Common.{◌≡◌, ℕ, suc, Bool, true, false, cond, List, [], ◌∷◌, ◌++◌, length, get_or, Option, Some}
use Rattle.std.proofs.Common.{None, refl, sym, ap, ◌∙◌, subst, true≢false}
use Rattle.std.specs.Prelude.{bytes_eq, is_some, option_map, option_and_then, slice_get}
use Rattle.std.specs.Ordering.{is_eq, nat_cmp}
use Rattle.std.specs.Cmp.{eq_by_cmp_equiv}
use Rattle.std.specs.Cmp.Lexicographic.{slice_cmp, bytes_decides, nat_list_cmp_total, nat_list_eq_equiv}
use Rattle.std.specs.Map.{KeepsOthers}
use Rattle.std.specs.BTreeMap.{BTreeMap, UpdatesBy, get_by, is_at}
use Rattle.std.proofs.lemmas.Map.Text.{is_eq-slice_cmp}
use Rattle.ds_ast.specs.declared.name.Name.{Name}
use Rattle.ds_ast.specs.declared.name.Name.TheVariants.{Number, Text}
use Rattle.ds_ast.specs.declared.ty.Ty.{Ty}
use Rattle.ds_ast.specs.declared.module.StructDef.{StructDef}
use Rattle.ds_ast.specs.Bounds.{is_name, fields_of}
use Rattle.ds_parse_global.specs.declared.places.Places.{Places}
use Rattle.ds_parse_global.specs.Places.{place_in, first_place, place_of}

apart : (bs cs ks : List ℕ) → bytes_eq bs cs ≡ false → is_eq (slice_cmp nat_cmp bs ks) ≡ true
    → is_eq (slice_cmp nat_cmp cs ks) ≡ false
apart bs cs ks n y = is_eq-slice_cmp cs ks ∙ nat_list_eq_equiv.symm cs ks
    ∙ sym (nat_list_eq_equiv.congr bs ks cs (sym (is_eq-slice_cmp bs ks) ∙ y)) ∙ n

module _ {K X : Type 0} (bytes : K → List ℕ) (bs cs : List ℕ) where
  keyed_by : (m n : BTreeMap K X) (w : Option X) (b : Bool) → bytes_eq bs cs ≡ b
      → UpdatesBy (λ x y. slice_cmp nat_cmp (bytes x) (bytes y)) (λ k. slice_cmp nat_cmp bs (bytes k)) m n w
      → get_by (λ k. slice_cmp nat_cmp cs (bytes k)) n ≡ cond b w (get_by (λ k. slice_cmp nat_cmp cs (bytes k)) m)
  unfolding KeepsOthers
  keyed_by m n w true e h =
      subst (λ ds. get_by (λ k. slice_cmp nat_cmp ds (bytes k)) n ≡ w) ((bytes_decides bs cs).0 e) h.1
  keyed_by m n w false e h =
      h.3 (is_at (λ k. slice_cmp nat_cmp cs (bytes k)))
      (λ x y. (eq_by_cmp_equiv nat_list_cmp_total).congr cs (bytes x) (bytes y)) (λ k. apart bs cs (bytes k) e)

  -- what is found at the bytes cs after a change at the bytes bs
  pub keyed : (m n : BTreeMap K X) (w : Option X)
      → UpdatesBy (λ x y. slice_cmp nat_cmp (bytes x) (bytes y)) (λ k. slice_cmp nat_cmp bs (bytes k)) m n w
      → get_by (λ k. slice_cmp nat_cmp cs (bytes k)) n
      ≡ cond (bytes_eq bs cs) w (get_by (λ k. slice_cmp nat_cmp cs (bytes k)) m)
  keyed m n w h = keyed_by m n w (bytes_eq bs cs) refl h

stays : (o : Option ℕ) (at : ℕ) → o ≡ first_place o false at
stays None at = refl
stays (Some i) at = refl

noted_by : (o p : Option ℕ) (at : ℕ) (b : Bool) → (b ≡ true → p ≡ None) → o ≡ cond b (Some at) p
    → o ≡ first_place p b at
noted_by o p at true none e = e ∙ sym (ap (λ p. first_place p true at) (none refl))
noted_by o p at false none e = e ∙ stays p at

pub absent : (o : Option ℕ) → is_some o ≡ false → o ≡ None
absent None e = refl
absent (Some i) e = absurd (true≢false e)

-- a text is noted
pub text_noted : (old new : Places) (bs : List ℕ) (at : ℕ) (name : Name) → name ≡ Text bs → place_in old name ≡ None
    → new.numbers ≡ old.numbers
    → ((cs : List ℕ) → place_in new (Text cs) ≡ cond (bytes_eq bs cs) (Some at) (place_in old (Text cs))) → (q : Name)
    → place_in new q ≡ first_place (place_in old q) (is_name name q) at
text_noted old new bs at name is none same h (Number n) =
    ap (λ m. get_by (nat_cmp n) m) same ∙ stays (place_in old (Number n)) at
    ∙ ap (λ x. first_place (place_in old (Number n)) (is_name x (Number n)) at) (sym is)
text_noted old new bs at name is none same h (Text cs) =
    noted_by (place_in new (Text cs)) (place_in old (Text cs)) at (bytes_eq bs cs)
    (λ e. ap (λ ds. place_in old (Text ds)) (sym ((bytes_decides bs cs).0 e)) ∙ ap (place_in old) (sym is) ∙ none)
    (h cs)
    ∙ ap (λ x. first_place (place_in old (Text cs)) (is_name x (Text cs)) at) (sym is)

after : (o : Option ℕ) (b : Bool) (at : ℕ) → option_map suc (first_place o b at)
    ≡ first_place (option_map suc o) b (suc at)
after (Some i) b at = refl
after None true at = refl
after None false at = refl

place_behind : (line : StructDef) (lines : List StructDef) (name : Name) (b : Bool)
    → place_of (lines ++ line ∷ []) name ≡ first_place (place_of lines name) (is_name line.name name) (length lines)
    → cond b (Some 0) (option_map suc (place_of (lines ++ line ∷ []) name))
    ≡ first_place (cond b (Some 0) (option_map suc (place_of lines name))) (is_name line.name name)
    (suc (length lines))
place_behind line lines name true e = refl
place_behind line lines name false e =
    ap (λ o. option_map suc o) e ∙ after (place_of lines name) (is_name line.name name) (length lines)

one_place : (b : Bool) → cond b (Some 0) None ≡ first_place None b 0
one_place true = refl
one_place false = refl

-- the place of a name behind one more line
pub place_of-push : (lines : List StructDef) (line : StructDef) (name : Name)
    → place_of (lines ++ line ∷ []) name ≡ first_place (place_of lines name) (is_name line.name name) (length lines)
place_of-push [] line name = one_place (is_name line.name name)
place_of-push (head ∷ lines) line name =
    place_behind line lines name (is_name head.name name) (place_of-push lines line name)

-- the fields of the line at a place
abbrev pub fields_at : List StructDef → Option ℕ → Option (List Ty)
fields_at lines o = option_and_then (λ i. option_map (λ line. line.fields) (slice_get lines i)) o

next_place : (line : StructDef) (lines : List StructDef) (o : Option ℕ)
    → fields_at lines o ≡ fields_at (line ∷ lines) (option_map suc o)
next_place line lines None = refl
next_place line lines (Some i) = refl

fields_by : (line : StructDef) (lines : List StructDef) (name : Name) (b : Bool)
    → fields_of lines name ≡ fields_at lines (place_of lines name)
    → cond b (Some line.fields) (fields_of lines name)
    ≡ fields_at (line ∷ lines) (cond b (Some 0) (option_map suc (place_of lines name)))
fields_by line lines name true e = refl
fields_by line lines name false e = e ∙ next_place line lines (place_of lines name)

-- the fields of the first line of a name are those at its place
pub fields_of-place : (lines : List StructDef) (name : Name)
    → fields_of lines name ≡ fields_at lines (place_of lines name)
fields_of-place [] name = refl
fields_of-place (line ∷ lines) name = fields_by line lines name (is_name line.name name) (fields_of-place lines name)

-- the fields of a name by what is noted of it
pub noted_fields : (lines : List StructDef) (places : Places) (name : Name) (o : Option ℕ)
    → ((q : Name) → place_in places q ≡ place_of lines q) → o ≡ place_in places name
    → fields_of lines name ≡ fields_at lines o
noted_fields lines places name o h e = fields_of-place lines name ∙ ap (fields_at lines) (sym (e ∙ h name))

last : (lines : List StructDef) (line d : StructDef) → get_or (lines ++ line ∷ []) (length lines) d ≡ line
last [] line d = refl
last (head ∷ lines) line d = last lines line d

-- what is noted of a name behind one more line is its place
pub pushed : (old new : List StructDef) (line found d : StructDef) (at : ℕ) (q : Name) (o p : Option ℕ)
    → new ≡ old ++ line ∷ [] → at ≡ length old → found ≡ get_or new at d
    → o ≡ place_of old q → p ≡ first_place o (is_name found.name q) at → p ≡ place_of new q
pushed old new line found d at q o p is len here before now =
    let same : found ≡ line =
    here ∙ ap (λ ls. get_or ls at d) is ∙ ap (λ n. get_or (old ++ line ∷ []) n d) len ∙ last old line d in
    now ∙ ap (λ o. first_place o (is_name found.name q) at) before
    ∙ ap (λ l. first_place (place_of old q) (is_name l.name q) at) same
    ∙ ap (λ n. first_place (place_of old q) (is_name line.name q) n) len ∙ sym (place_of-push old line q)
    ∙ ap (λ ls. place_of ls q) (sym is)
