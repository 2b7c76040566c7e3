-- One item more of what a loop goes through.
use Rattle.std.proofs.Common.{◌≡◌, ◌+◌, ◌<◌, ◌++◌, ℕ, suc, List, [], ◌∷◌, Option, Some, None, refl, sym, ap, ◌∙◌, get_or, take, drop, length, add-one, append_assoc, drop-cons}
use Rattle.std.specs.Prelude.{map, flat_map}
use Rattle.std.proofs.Math.Seq.{take-suc}
use Rattle.std.proofs.lemmas.List.{map-append}
use Rattle.std.proofs.lemmas.Grind.{flat_map-append}
use Rattle.ds_ast.specs.declared.name.Name.{Name}
use Rattle.ds_names.specs.Names.{place_of}
use Rattle.ds_shape.specs.Index.{unless_placed, first_unplaced}

nothing_behind : {X : Type 0} (xs : List X) → xs ++ [] ≡ xs
nothing_behind [] = refl
nothing_behind (x ∷ xs) = ap (λ (ys : List _). x ∷ ys) (nothing_behind xs)

front : {X : Type 0} (xs : List X) (i : ℕ) (x : X) → i < length xs → x ≡ get_or xs i x →
    take (i + 1) xs ≡ take i xs ++ x ∷ []
front xs i x inside is =
    ap (λ (n : ℕ). take n xs) (add-one i) ∙ take-suc xs i x inside ∙ ap (λ (y : _). take i xs ++ y ∷ []) (sym is)

pub map_front : {X Y : Type 0} (f : X → Y) (xs : List X) (i : ℕ) (x : X) → i < length xs → x ≡ get_or xs i x →
    map f (take (i + 1) xs) ≡ map f (take i xs) ++ f x ∷ []
map_front f xs i x inside is = ap (map f) (front xs i x inside is) ∙ map-append f (take i xs) (x ∷ [])

flat_front : {X Y : Type 0} (f : X → List Y) (xs : List X) (i : ℕ) (x : X) → i < length xs → x ≡ get_or xs i x →
    flat_map f (take (i + 1) xs) ≡ flat_map f (take i xs) ++ f x
flat_front f xs i x inside is =
    ap (flat_map f) (front xs i x inside is) ∙ flat_map-append f (take i xs) (x ∷ [])
    ∙ ap (λ (ys : List _). flat_map f (take i xs) ++ ys) (nothing_behind (f x))

pub map_step : {X Y : Type 0} (f : X → Y) (xs : List X) (i : ℕ) (x : X) → i < length xs → x ≡ get_or xs i x →
    (old before after : List Y) →
    before ≡ old ++ map f (take i xs) → after ≡ before ++ f x ∷ [] → after ≡ old ++ map f (take (i + 1) xs)
map_step f xs i x inside is old before after p q =
    q ∙ ap (λ (b : List _). b ++ f x ∷ []) p ∙ append_assoc old (map f (take i xs)) (f x ∷ [])
    ∙ ap (λ (b : List _). old ++ b) (sym (map_front f xs i x inside is))

pub flat_step : {X Y : Type 0} (f : X → List Y) (xs : List X) (i : ℕ) (x : X) → i < length xs → x ≡ get_or xs i x →
    (old before after : List Y) →
    before ≡ old ++ flat_map f (take i xs) → after ≡ before ++ f x → after ≡ old ++ flat_map f (take (i + 1) xs)
flat_step f xs i x inside is old before after p q =
    q ∙ ap (λ (b : List _). b ++ f x) p ∙ append_assoc old (flat_map f (take i xs)) (f x)
    ∙ ap (λ (b : List _). old ++ b) (sym (flat_front f xs i x inside is))

-- one more item is pushed, of which the list keeps this
pub pushed : {X Y : Type 0} (f : X → Y) (old new : List X) (x : X) (y : Y) → new ≡ old ++ x ∷ [] → f x ≡ y →
    map f new ≡ map f old ++ y ∷ []
pushed f old new x y is e = ap (map f) is ∙ map-append f old (x ∷ []) ∙ ap (λ (z : _). map f old ++ z ∷ []) e

-- THE FIRST WITHOUT A PLACE

left_by : (o : Option ℕ) (x n : Name) (rest more : Option Name) → (rest ≡ Some n → more ≡ Some n) →
    unless_placed o x rest ≡ Some n → unless_placed o x more ≡ Some n
left_by None x n rest more on e = e
left_by (Some k) x n rest more on e = on e

pub first_left : (names xs ys : List Name) (n : Name) → first_unplaced names xs ≡ Some n →
    first_unplaced names (xs ++ ys) ≡ Some n
first_left names [] ys n e = absurd cc
first_left names (x ∷ xs) ys n e =
    left_by (place_of names x) x n (first_unplaced names xs) (first_unplaced names (xs ++ ys))
    (first_left names xs ys n) e

right_by : (o : Option ℕ) (x : Name) (rest more behind : Option Name) → (rest ≡ None → more ≡ behind) →
    unless_placed o x rest ≡ None → unless_placed o x more ≡ behind
right_by None x rest more behind on e = absurd cc
right_by (Some k) x rest more behind on e = on e

pub first_right : (names xs ys : List Name) → first_unplaced names xs ≡ None →
    first_unplaced names (xs ++ ys) ≡ first_unplaced names ys
first_right names [] ys e = refl
first_right names (x ∷ xs) ys e =
    right_by (place_of names x) x (first_unplaced names xs) (first_unplaced names (xs ++ ys)) (first_unplaced names ys)
    (first_right names xs ys) e

module _ {X Y : Type 0} (names : List Name) (g : X → Y) (f : Y → List Name) (xs : List X) (i : ℕ) (x : X)
    (inside : i < length xs) (is : x ≡ get_or xs i x)
    (before : first_unplaced names (flat_map f (map g (drop i xs))) ≡ first_unplaced names (flat_map f (map g xs)))
  where
    split_here : first_unplaced names (f (g x) ++ flat_map f (map g (drop (i + 1) xs))) ≡ first_unplaced names
        (flat_map f (map g xs))
    split_here =
        ap (λ (n : ℕ). first_unplaced names (f (g x) ++ flat_map f (map g (drop n xs)))) (add-one i)
        ∙ ap (λ (y : X). first_unplaced names (f (g y) ++ flat_map f (map g (drop (suc i) xs)))) is
        ∙ ap (λ (ys : List X). first_unplaced names (flat_map f (map g ys))) (sym (drop-cons xs i x inside)) ∙ before

    -- this item has none: the first is the first of those behind it
    pub unplaced_behind : first_unplaced names (f (g x)) ≡ None →
        first_unplaced names (flat_map f (map g (drop (i + 1) xs))) ≡ first_unplaced names (flat_map f (map g xs))
    unplaced_behind none = sym (first_right names (f (g x)) (flat_map f (map g (drop (i + 1) xs))) none) ∙ split_here

    -- this item has one
    pub unplaced_here : (n : Name) → first_unplaced names (f (g x)) ≡ Some n →
        Some n ≡ first_unplaced names (flat_map f (map g xs))
    unplaced_here n found =
        sym (first_left names (f (g x)) (flat_map f (map g (drop (i + 1) xs))) n found) ∙ split_here
