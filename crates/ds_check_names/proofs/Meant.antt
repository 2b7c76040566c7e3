-- What is found is what names mean.
use Rattle.std.proofs.Common.{◌≡◌, ℕ, zero, suc, List, [], ◌∷◌, ◌++◌, ◌⊎◌, inl, inr, Option, Some, None, refl, sym, ap}
use Rattle.std.proofs.Common.{◌∙◌, subst, slice_get, append_assoc, true, true≢false}
use Rattle.std.specs.Prelude.{flat_map, is_some}
use Rattle.ds_ast.specs.declared.name.Name.{Name}
use Rattle.ds_ast.specs.declared.instr.Instr.{Instr}
use Rattle.ds_ast.specs.declared.module.Function.{Function}
use Rattle.ds_ast.specs.declared.module.Block.{Block}
use Rattle.ds_names.specs.Names.{AreDistinct, place_of}
use Rattle.ds_names.specs.Laws.{PlacesAreExact, PlacesAreUnique}
use Rattle.ds_shape.specs.declared.local.LocalType.{LocalType}
use Rattle.ds_shape.specs.declared.local.LocalType.TheVariants.{Plain}
use Rattle.ds_shape.specs.Types.{Stands, result_type, Defines, instructions_of}
use Rattle.ds_check_names.specs.declared.meaning.Meaning.{Meaning}
use Rattle.ds_check_names.specs.declared.meaning.Meaning.TheVariants.{Parameter, Label, Result}
use Rattle.ds_check_names.specs.Scope.{Means}
use Rattle.ds_check_names.specs.Entries.{names_of, meanings_of, entries_of, value_type, block_number}
use Rattle.ds_check_names.proofs.Lists.{stands_at, number_of}
use Rattle.ds_check_names.proofs.Placed.{at_place, place_at}
use Rattle.ds_check_names.proofs.Entered.{has_at, at_has, has_means, means_has}

-- exactly this is what the name means
abbrev pub IsMeaning : Function → Name → Option Meaning → Type 0
IsMeaning f n r = (w : Meaning) → (r ≡ Some w → Means f n w) × (Means f n w → r ≡ Some w)

-- LOOKED UP

module _ (exact : PlacesAreExact) (unique : PlacesAreUnique) (f : Function) (names : List Name)
    (meanings : List Meaning) (n : Name) (place : Option ℕ)
    (all : (names ≡ names_of (entries_of f)) × (meanings ≡ meanings_of (entries_of f)) × AreDistinct names)
    (is : place ≡ place_of names n) where
  placed : (w : Meaning) → Means f n w → (i : ℕ) × (place ≡ Some i) × (slice_get meanings i ≡ Some w)
  placed w h =
      let r : (i : ℕ) × (slice_get (names_of (entries_of f)) i ≡ Some n)
      × (slice_get (meanings_of (entries_of f)) i ≡ Some w) = at_has n w (entries_of f) (means_has f n w h) in (
        r.0,
        is ∙ place_at unique names n r.0 all.2 (ap (λ ns. slice_get ns r.0) all.0 ∙ r.1),
        ap (λ ws. slice_get ws r.0) all.1 ∙ r.2,
      )

  found_by : (w : Meaning) (i j : ℕ) (o : Option ℕ) (r : Option Meaning) → o ≡ Some i → o ≡ Some j
      → r ≡ slice_get meanings i → slice_get meanings j ≡ Some w → r ≡ Some w
  found_by w i j o r a b e h = let same : ◌≡◌ {A = Option ℕ} (Some i) (Some j) = sym a ∙ b in let one : i ≡ j = cc in
      e ∙ ap (slice_get meanings) one ∙ h

  pub looked_up : (v : Function) → f ≡ v → (i : ℕ) (r : Option Meaning) → place ≡ Some i → r ≡ slice_get meanings i
      → IsMeaning v n r
  looked_up v view i r at e = subst (λ g. IsMeaning g n r) view (λ w. (
    λ h. has_means f n w
        (has_at n w (entries_of f) i (ap (λ ns. slice_get ns i) (sym all.0) ∙ at_place exact names n i (sym is ∙ at))
        (ap (λ ws. slice_get ws i) (sym all.1) ∙ sym e ∙ h)),
    λ h. let p : (i : ℕ) × (place ≡ Some i) × (slice_get meanings i ≡ Some w) = placed w h in
        found_by w i p.0 place r at p.1 e p.2,
  ))

  pub not_there : (v : Function) → f ≡ v → place ≡ None → IsMeaning v n None
  not_there v view none = subst (λ g. IsMeaning g n None) view (λ w. (
    λ h. cc,
    λ h. let p : (i : ℕ) × (place ≡ Some i) × (slice_get meanings i ≡ Some w) = placed w h in let both =
        sym none ∙ p.1 in cc,
  ))

-- TYPES

in_some : (blocks : List Block) (b k : ℕ) (c : Block) (i : Instr) → slice_get blocks b ≡ Some c
    → slice_get c.code k ≡ Some i → Stands i (flat_map (λ (b : Block). b.code) blocks)
in_some [] b k c i e h = cc
in_some (x ∷ cs) zero k c i e h =
    let s : Stands i x.code = subst (λ (y : Block). Stands i y.code) same (stands_at c.code k i h) in (
      s.0,
      s.1 ++ flat_map (λ (b : Block). b.code) cs,
      ap (λ l. l ++ flat_map (λ (b : Block). b.code) cs) s.2
          ∙ append_assoc s.0 (i ∷ s.1) (flat_map (λ (b : Block). b.code) cs),
    )
  where
    same : c ≡ x
    same = cc
in_some (x ∷ cs) (suc b) k c i e h =
    let s : Stands i (flat_map (λ (b : Block). b.code) cs) = in_some cs b k c i e h in
    (x.code ++ s.0, s.1, ap (λ l. x.code ++ l) s.2 ∙ sym (append_assoc x.code s.0 (i ∷ s.1)))

-- where an instruction of blocks stands
abbrev StandsIn : List Block → Instr → Type 0
StandsIn blocks i = (c : Block) × (b k : ℕ) × (slice_get blocks b ≡ Some c) × (slice_get c.code k ≡ Some i)

first_or : {A : Type 0} (xs ys : List A) (i : ℕ) (x : A) → slice_get (xs ++ ys) i ≡ Some x
    → (slice_get xs i ≡ Some x) ⊎ ((j : ℕ) × (slice_get ys j ≡ Some x))
first_or [] ys i x e = inr (i, e)
first_or (z ∷ xs) ys zero x e = inl e
first_or (z ∷ xs) ys (suc i) x e = first_or xs ys i x e

numbers_in : (blocks : List Block) (i : Instr) (j : ℕ) → slice_get (flat_map (λ (b : Block). b.code) blocks) j ≡ Some i
    → StandsIn blocks i
numbers_in [] i j e = cc
numbers_in (x ∷ cs) i j e = either (numbers_in cs i) (first_or x.code (flat_map (λ (b : Block). b.code) cs) j i e)
  where
    either : ((j : ℕ) → slice_get (flat_map (λ (b : Block). b.code) cs) j ≡ Some i → StandsIn cs i)
        → (slice_get x.code j ≡ Some i) ⊎ ((k : ℕ) × (slice_get (flat_map (λ (b : Block). b.code) cs) k ≡ Some i))
        → StandsIn (x ∷ cs) i
    either further (inl h) = (x, 0, j, refl, h)
    either further (inr h) = let r : StandsIn cs i = further h.0 h.1 in (r.0, suc r.1, r.2, r.3, r.4)

-- what a meaning says of the type is how the name is defined
type_defines : (f : Function) (n : Name) (w : Meaning) (t : Option LocalType) → Means f n w → value_type w ≡ Some t
    → Defines f n t
type_defines f n (Parameter s) t h e = inl (h.0, h.1, h.2, some_same e ∙ ap Some h.3)
  where
    some_same : ◌≡◌ {A = Option (Option LocalType)} (Some (Some s)) (Some t) → t ≡ Some s
    some_same e = cc
type_defines f n (Label b) t h e = cc
type_defines f n (Result s b k) t h e = inr (h.1, in_some f.blocks b k h.0 h.1 h.2 h.3, h.4, some_same e ∙ h.5)
  where
    some_same : ◌≡◌ {A = Option (Option LocalType)} (Some s) (Some t) → t ≡ s
    some_same e = cc

defines_type : (f : Function) (n : Name) (t : Option LocalType) → Defines f n t → (w : Meaning) × Means f n w
    × (value_type w ≡ Some t)
defines_type f n t (inl h) = (Parameter (Plain h.0.ty), (h.0, h.1, h.2, refl), ap Some (sym h.3))
defines_type f n t (inr h) =
    let j : (j : ℕ) × (slice_get (instructions_of f) j ≡ Some h.0) = number_of (instructions_of f) h.0 h.1 in
    let s : StandsIn f.blocks h.0 = numbers_in f.blocks h.0 j.0 j.1 in
    (Result (result_type h.0.op) s.1 s.2, (s.0, h.0, s.3, s.4, h.2, refl), ap Some (sym h.3))

module _ (f : Function) (n : Name) (found : Option Meaning) (means : IsMeaning f n found) where
  found_same : (w v : Meaning) → found ≡ Some v → found ≡ Some w → v ≡ w
  found_same w v a b = let same : ◌≡◌ {A = Option Meaning} (Some v) (Some w) = sym a ∙ b in cc

  pub defined_by : (v : Meaning) (r : Option (Option LocalType)) → found ≡ Some v → r ≡ value_type v
      → (t : Option LocalType) → (r ≡ Some t → Defines f n t) × (Defines f n t → r ≡ Some t)
  defined_by v r is e t = (
    λ h. type_defines f n v t ((means v).0 is) (sym e ∙ h),
    λ h. let d : (w : Meaning) × Means f n w × (value_type w ≡ Some t) = defines_type f n t h in
        e ∙ ap value_type (found_same d.0 v is ((means d.0).1 d.1)) ∙ d.2,
  )

  pub undefined_by : found ≡ None → (t : Option LocalType)
      → (◌≡◌ {A = Option (Option LocalType)} None (Some t) → Defines f n t)
      × (Defines f n t → ◌≡◌ {A = Option (Option LocalType)} None (Some t))
  undefined_by none t = (
    λ h. cc,
    λ h. let d : (w : Meaning) × Means f n w × (value_type w ≡ Some t) = defines_type f n t h in let both =
        sym none ∙ (means d.0).1 d.1 in cc,
  )

  label_of : (v : Meaning) (b : ℕ) → block_number v ≡ Some b → v ≡ Label b
  label_of (Parameter t) b e = cc
  label_of (Label c) b e = cc
  label_of (Result t c k) b e = cc

  pub numbered_by : (v : Meaning) (r : Option ℕ) → found ≡ Some v → r ≡ block_number v → (b : ℕ)
      → (r ≡ Some b → Means f n (Label b)) × (Means f n (Label b) → r ≡ Some b)
  numbered_by v r is e b = (
    λ h. (means (Label b)).0 (is ∙ ap Some (label_of v b (sym e ∙ h))),
    λ h. e ∙ ap block_number (found_same (Label b) v is ((means (Label b)).1 h)),
  )

  pub no_number : found ≡ None → (b : ℕ) → (◌≡◌ {A = Option ℕ} None (Some b) → Means f n (Label b))
      × (Means f n (Label b) → ◌≡◌ {A = Option ℕ} None (Some b))
  no_number none b = (λ h. cc, λ h. let both = sym none ∙ (means (Label b)).1 h in cc)

-- a local name is defined where its type is found
pub is_found : (r : Option (Option LocalType)) (P : Option LocalType → Type 0)
    → ((t : Option LocalType) → (r ≡ Some t → P t) × (P t → r ≡ Some t))
    → (is_some r ≡ true → (t : Option LocalType) × P t) × (((t : Option LocalType) × P t) → is_some r ≡ true)
is_found None P h = (λ e. absurd (true≢false (sym e)), λ p. let e = (h p.0).1 p.1 in cc)
is_found (Some t) P h = (λ e. (t, (h t).0 refl), λ p. refl)
