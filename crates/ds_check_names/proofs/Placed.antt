-- The places of names.
use Rattle.std.proofs.Common.{◌≡◌, ℕ, zero, suc, List, [], ◌∷◌, inl, inr, Some, ap, ◌∙◌, slice_get}
use Rattle.std.proofs.lemmas.Option.{slice_get-get_or, get_or_from_slice_get, slice_get_within}
use Rattle.ds_ast.specs.declared.name.Name.{Name}
use Rattle.ds_names.specs.Names.{Among, AreDistinct, place_of}
use Rattle.ds_names.specs.Laws.{PlacesAreExact, PlacesAreUnique}

pub among_at : (names : List Name) (i : ℕ) (name : Name) → slice_get names i ≡ Some name → Among name names
among_at [] i name e = cc
among_at (n ∷ names) zero name e = inl cc
among_at (n ∷ names) (suc i) name e = inr (among_at names i name e)

pub number_among : (names : List Name) (name : Name) → Among name names → (i : ℕ) × (slice_get names i ≡ Some name)
number_among [] name a = absurd a
number_among (n ∷ names) name (inl e) = (0, ap Some e)
number_among (n ∷ names) name (inr a) =
    let r : (i : ℕ) × (slice_get names i ≡ Some name) = number_among names name a in (suc r.0, r.1)

pub at_place : PlacesAreExact → (names : List Name) (name : Name) (i : ℕ) → place_of names name ≡ Some i
    → slice_get names i ≡ Some name
at_place exact names name i e =
    let there = (exact names name).1 i e in slice_get-get_or names i name there.0 ∙ ap Some (there.1 name)

pub place_at : PlacesAreUnique → (names : List Name) (name : Name) (i : ℕ) → AreDistinct names
    → slice_get names i ≡ Some name → place_of names name ≡ Some i
place_at unique names name i distinct e =
    unique names name name i distinct (slice_get_within names i name e) (get_or_from_slice_get names i name name e)
