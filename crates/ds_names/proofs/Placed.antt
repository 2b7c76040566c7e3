-- The places that two maps have for names, once one more name stands behind the others.
use Rattle.std.proofs.Common.{◌≡◌, ℕ, suc, Bool, true, false, List, [], ◌∷◌, ◌++◌, length, inl, inr, Option, Some, None, refl, sym, ap, ◌∙◌, subst, cond, true≢false}
use Rattle.std.specs.Prelude.{is_some, option_map}
use Rattle.std.specs.BTreeMap.{BTreeMap, UpdatesBy}
use Rattle.std.specs.Cmp.Lexicographic.{slice_cmp}
use Rattle.std.specs.Ordering.{nat_cmp}
use Rattle.std.proofs.lemmas.List.{length-map, map-append}
use Rattle.std.proofs.lemmas.Map.Text.{btree_map_updates_str}
use denote.Ref.{Bor}
use Rattle.ds_ast.specs.declared.name.Name.{Name}
use Rattle.ds_ast.specs.declared.name.Name.TheVariants.{Number, Text}
use Rattle.ds_ast.specs.Bounds.{is_name}
use Rattle.ds_names.specs.Names.{Among, AreDistinct, place_of}
use Rattle.ds_names.specs.Places.{place_in, nows}
use Rattle.ds_names.proofs.Standing.{names_decide, among_at, some_at, none_among, one_behind}

text_kept : (texts more : BTreeMap (Bor (List ℕ)) ℕ) (numbers : BTreeMap ℕ ℕ) (bytes : List ℕ) (at : ℕ)
    → UpdatesBy (λ x y. slice_cmp nat_cmp x.now y.now) (λ k. slice_cmp nat_cmp bytes k.now) texts more (Some at)
    → (q : Name) → place_in more numbers q ≡ cond (is_name (Text bytes) q) (Some at) (place_in texts numbers q)
text_kept texts more numbers bytes at h (Number m) = refl
text_kept texts more numbers bytes at h (Text other) = btree_map_updates_str bytes texts more (Some at) h other

-- the place of a text is kept
pub keeps_text : (texts more : BTreeMap (Bor (List ℕ)) ℕ) (numbers : BTreeMap ℕ ℕ) (bytes : List ℕ) (at : ℕ)
    (name : Name) → name ≡ Text bytes
    → UpdatesBy (λ x y. slice_cmp nat_cmp x.now y.now) (λ k. slice_cmp nat_cmp bytes k.now) texts more (Some at)
    → (q : Name) → place_in more numbers q ≡ cond (is_name name q) (Some at) (place_in texts numbers q)
keeps_text texts more numbers bytes at name e h q =
    text_kept texts more numbers bytes at h q
    ∙ ap (λ n. cond (is_name n q) (Some at) (place_in texts numbers q)) (sym e)

-- ONE MORE NAME

behind_by : (o : Option ℕ) (i : ℕ) (b c : Bool) → (b ≡ true → c ≡ true → ⊥) →
    cond b (Some 0) (option_map suc (cond c (Some i) o)) ≡ cond c (Some (suc i)) (cond b (Some 0) (option_map suc o))
behind_by o i true true h = absurd (h refl refl)
behind_by o i true false h = refl
behind_by o i false true h = refl
behind_by o i false false h = refl

-- the place of a name where one more stands behind the others
place_behind : (names : List Name) (name q : Name) → (Among name names → ⊥) →
    place_of (names ++ name ∷ []) q ≡ cond (is_name name q) (Some (length names)) (place_of names q)
place_behind [] name q fresh = refl
place_behind (n ∷ names) name q fresh =
    ap (λ o. cond (is_name n q) (Some 0) (option_map suc o)) (place_behind names name q (λ a. fresh (inr a)))
    ∙ behind_by (place_of names q) (length names) (is_name n q) (is_name name q)
    (λ e f. fresh (inl ((names_decide n q).0 e ∙ sym ((names_decide name q).0 f))))

absent : (o p : Option ℕ) → o ≡ p → is_some o ≡ false → p ≡ None
absent None p same e = sym same
absent (Some i) p same e = absurd (true≢false e)

present : (names : List Name) (name : Name) (o : Option ℕ) → o ≡ place_of names name → is_some o ≡ true →
    Among name names
present names name None same e = absurd (true≢false (sym e))
present names name (Some i) same e =
    let there = some_at names name i (sym same) in among_at names name name i there.0 (there.1 name)

-- the name that has a place stands there
pub found_among : (names all : List Name) (name : Name) (o p : Option ℕ) → o ≡ p → p ≡ place_of names name →
    names ≡ all → is_some o ≡ true → Among name all
found_among names all name o p found is same e = subst (λ ns. Among name ns) same (present names name o (found ∙ is) e)

module _ (old new : List (Bor Name)) (name : Bor Name) (o p : Option ℕ) (is : new ≡ old ++ name ∷ []) (found : o ≡ p)
    (before : p ≡ place_of (nows old) name.now) (none : is_some o ≡ false) where
  fresh : Among name.now (nows old) → ⊥
  fresh = none_among (nows old) name.now (absent o (place_of (nows old) name.now) (found ∙ before) none)

  more : nows new ≡ nows old ++ name.now ∷ []
  more = ap nows is ∙ map-append (λ (n : Bor Name). n.now) old (name ∷ [])

  -- names that were distinct stay so with one that had no place
  pub put_distinct : AreDistinct (nows old) → AreDistinct (nows new)
  put_distinct distinct = subst AreDistinct (sym more) (one_behind (nows old) name.now distinct fresh)

  -- and what is kept of each name stays its place
  pub put_placed : (q : Name) (at : ℕ) (kept now : Option ℕ) → at ≡ length old → kept ≡ place_of (nows old) q →
      now ≡ cond (is_name name.now q) (Some at) kept → now ≡ place_of (nows new) q
  put_placed q at kept now len was e =
      e ∙ ap (λ k. cond (is_name name.now q) (Some at) k) was
      ∙ ap (λ n. cond (is_name name.now q) (Some n) (place_of (nows old) q))
      (len ∙ sym (length-map old (λ (n : Bor Name). n.now)))
      ∙ sym (place_behind (nows old) name.now q fresh) ∙ ap (λ ns. place_of ns q) (sym more)
