-- The places of names.
use Rattle.std.proofs.Common.{◌≡◌, ◌<◌, ◌⊎◌, ◌++◌, ℕ, zero, suc, Bool, true, false, List, [], ◌∷◌, Option, Some, None, refl, sym, ap, ◌∙◌, subst, inl, inr, get_or, take, drop, length, cond, true≢false, arith}
use Rattle.std.specs.Prelude.{option_map}
use Rattle.ds_ast.specs.declared.name.Name.{Name}
use Rattle.ds_ast.specs.declared.module.StructDef.{StructDef}
use Rattle.ds_ast.specs.Bounds.{is_name}
use Rattle.ds_names.specs.Names.{Among, AreDistinct, IsFirstTwice, place_of}
use Rattle.ds_shape.specs.Written.{struct_names}
use Rattle.ds_shape.proofs.Exist.{names_decide}

pub among_at : (names : List Name) (d : Name) (i : ℕ) → i < length names → Among (get_or names i d) names
among_at [] d i inside = absurd (omega (arith, inside))
among_at (n ∷ names) d zero inside = inl refl
among_at (n ∷ names) d (suc i) inside = inr (among_at names d i (omega (arith, inside)))

below_by : (b : Bool) (o : Option ℕ) (i m : ℕ) → ((j : ℕ) → o ≡ Some j → j < m) →
    cond b (Some 0) (option_map suc o) ≡ Some i → i < suc m
below_by true o i m rest e = let s : 0 ≡ i = cc in omega (arith, s)
below_by false None i m rest e = absurd cc
below_by false (Some j) i m rest e = let s : suc j ≡ i = cc in let h : j < m = rest j refl in omega (arith, s, h)

-- a place is below the number of names
pub place_below : (names : List Name) (name : Name) (i : ℕ) → place_of names name ≡ Some i → i < length names
place_below [] name i e = absurd cc
place_below (n ∷ names) name i e =
    below_by (is_name n name) (place_of names name) i (length names) (place_below names name) e

at_by : (n name d : Name) (names : List Name) (b : Bool) (o : Option ℕ) (i : ℕ) → is_name n name ≡ b →
    ((j : ℕ) → o ≡ Some j → get_or names j d ≡ name) →
    cond b (Some 0) (option_map suc o) ≡ Some i → get_or (n ∷ names) i d ≡ name
at_by n name d names true o i is rest e =
    let s : 0 ≡ i = cc in subst (λ (k : ℕ). get_or (n ∷ names) k d ≡ name) s ((names_decide n name).0 is)
at_by n name d names false None i is rest e = absurd cc
at_by n name d names false (Some j) i is rest e =
    let s : suc j ≡ i = cc in subst (λ (k : ℕ). get_or (n ∷ names) k d ≡ name) s (rest j refl)

-- and the name stands there
pub place_at : (names : List Name) (name d : Name) (i : ℕ) → place_of names name ≡ Some i → get_or names i d ≡ name
place_at [] name d i e = absurd cc
place_at (n ∷ names) name d i e =
    at_by n name d names (is_name n name) (place_of names name) i refl (λ j f. place_at names name d j f) e

pub among_place : (names : List Name) (name : Name) (i : ℕ) → place_of names name ≡ Some i → Among name names
among_place names name i e =
    subst (λ (n : Name). Among n names) (place_at names name name i e)
    (among_at names name i (place_below names name i e))

missing_by : (n name : Name) (names : List Name) (b : Bool) (o : Option ℕ) → is_name n name ≡ b →
    (o ≡ None → Among name names → ⊥) → cond b (Some 0) (option_map suc o) ≡ None →
    (n ≡ name) ⊎ Among name names → ⊥
missing_by n name names true o is rest e a = absurd cc
missing_by n name names false (Some j) is rest e a = absurd cc
missing_by n name names false None is rest e (inl same) = absurd (true≢false (sym ((names_decide n name).1 same) ∙ is))
missing_by n name names false None is rest e (inr a) = rest refl a

-- a name without a place does not stand there
pub none_among : (names : List Name) (name : Name) → place_of names name ≡ None → Among name names → ⊥
none_among [] name e a = a
none_among (n ∷ names) name e a =
    missing_by n name names (is_name n name) (place_of names name) refl (none_among names name) e a

-- among distinct names each has its place
pub place_of_each : (names : List Name) (d : Name) (i : ℕ) → AreDistinct names → i < length names →
    place_of names (get_or names i d) ≡ Some i
place_of_each [] d i distinct inside = absurd (omega (arith, inside))
place_of_each (n ∷ names) d zero distinct inside = rw ((names_decide n n).1 refl)
place_of_each (n ∷ names) d (suc i) distinct inside =
    by_first (is_name n (get_or names i d)) refl (place_of_each names d i distinct.1 (omega (arith, inside)))
  where
    by_first : (b : Bool) → is_name n (get_or names i d) ≡ b → place_of names (get_or names i d) ≡ Some i →
        cond (is_name n (get_or names i d)) (Some 0) (option_map suc (place_of names (get_or names i d))) ≡ Some
        (suc i)
    by_first true e rest =
        let same : n ≡ get_or names i d = (names_decide n (get_or names i d)).0 e in
        absurd (distinct.0
        (subst (λ (m : Name). Among m names) (sym same) (among_at names d i (omega (arith, inside)))))
    by_first false e rest = rw (e, rest) refl

-- the name of a line stands among those before it: it is the first that does
pub twice_at : (structs : List StructDef) (names : List Name) (i : ℕ) (line : StructDef) → i < length structs →
    line ≡ get_or structs i line → names ≡ struct_names (take i structs) → AreDistinct names →
    Among line.name names → IsFirstTwice (struct_names structs) line.name
twice_at structs names i line inside is so_far distinct among = record {
  before = struct_names (take i structs);
  after = struct_names (drop (suc i) structs);
  split = split_at structs i line inside is;
  first_time = subst (Among line.name) so_far among;
  none_before = subst AreDistinct so_far distinct;
}
  where
    split_at : (xs : List StructDef) (i : ℕ) (x : StructDef) → i < length xs → x ≡ get_or xs i x →
        struct_names xs ≡ struct_names (take i xs) ++ x.name ∷ struct_names (drop (suc i) xs)
    split_at [] i x inside is = absurd (omega (arith, inside))
    split_at (y ∷ ys) zero x inside is = ap (λ (s : StructDef). s.name ∷ struct_names ys) (sym is)
    split_at (y ∷ ys) (suc i) x inside is =
        ap (λ (ns : List Name). y.name ∷ ns) (split_at ys i x (omega (arith, inside)) is)
