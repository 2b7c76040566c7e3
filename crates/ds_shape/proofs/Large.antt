-- Which types are too large, an array by its elements and types one by one.
use Rattle.std.proofs.Common.{◌≡◌, ◌+◌, ◌<◌, ℕ, suc, Bool, true, false, ◌||◌, List, ◌∷◌, refl, sym, ap, ◌∙◌, get_or, drop, length, add-one, drop-cons}
use denote.Ref.{Bor}
use Rattle.ds_ast.specs.declared.name.Name.{Name}
use Rattle.ds_ast.specs.declared.ty.Ty.{Ty}
use Rattle.ds_ast.specs.declared.ty.Ty as ty
use Rattle.ds_shape.specs.Capped.{capped_extent, is_large, writes_large, any_large}
use Rattle.ds_shape.specs.Index.{types_in}
use Rattle.ds_shape.specs.declared.extents.CappedExtent.{CappedExtent}
use Rattle.ds_shape.proofs.Arrays.{large_array}

from_here : {X : Type 0} (xs : List X) (i : ℕ) (x : X) → i < length xs → x ≡ get_or xs i x →
    x ∷ drop (i + 1) xs ≡ drop i xs
from_here xs i x inside is =
    ap (λ (n : ℕ). x ∷ drop n xs) (add-one i) ∙ ap (λ (y : _). y ∷ drop (suc i) xs) is ∙ sym (drop-cons xs i x inside)

true_or : (a b : Bool) → a ≡ true → (a || b) ≡ true
true_or true b e = refl
true_or false b e = absurd cc

false_or : (a b : Bool) → a ≡ false → (a || b) ≡ b
false_or true b e = absurd cc
false_or false b e = refl

pub array_is_large : (h : Name → CappedExtent) (n : ℕ) (of t : Ty) (e : CappedExtent) (b : Bool) → t ≡ ty.Array n of →
    e ≡ capped_extent h t → b ≡ is_large e → b ≡ true → true ≡ writes_large h t
array_is_large h n of t e b is same large so =
    sym (true_or (is_large (capped_extent h (ty.Array n of))) (writes_large h of)
    (ap (λ (u : Ty). is_large (capped_extent h u)) (sym is) ∙ ap is_large (sym same) ∙ sym large ∙ so))
    ∙ sym (large_array h n of) ∙ ap (writes_large h) (sym is)

pub array_is_small : (h : Name → CappedExtent) (n : ℕ) (of inner t : Ty) (e : CappedExtent) (b c : Bool) →
    t ≡ ty.Array n of → e ≡ capped_extent h t → b ≡ is_large e → b ≡ false → inner ≡ of →
    c ≡ writes_large h inner → c ≡ writes_large h t
array_is_small h n of inner t e b c is same large not_so inside rest =
    rest ∙ ap (writes_large h) inside
    ∙ sym (false_or (is_large (capped_extent h (ty.Array n of))) (writes_large h of)
    (ap (λ (u : Ty). is_large (capped_extent h u)) (sym is) ∙ ap is_large (sym same) ∙ sym large ∙ not_so))
    ∙ sym (large_array h n of) ∙ ap (writes_large h) (sym is)

-- ONE TYPE MORE

module _ (h : Name → CappedExtent) (types : List (Bor Ty)) (i : ℕ) (t : Bor Ty) (inside : i < length types)
    (is : t ≡ get_or types i t)
    (before : any_large h (types_in (drop i types)) ≡ any_large h (types_in types)) where
  split_any : (writes_large h t.now || any_large h (types_in (drop (i + 1) types))) ≡ any_large h (types_in types)
  split_any = ap (λ (ts : List (Bor Ty)). any_large h (types_in ts)) (from_here types i t inside is) ∙ before

  pub large_here : (b : Bool) → b ≡ writes_large h t.now → b ≡ true → true ≡ any_large h (types_in types)
  large_here b e so =
      sym (true_or (writes_large h t.now) (any_large h (types_in (drop (i + 1) types))) (sym e ∙ so)) ∙ split_any

  pub large_behind : (b : Bool) → b ≡ writes_large h t.now → b ≡ false →
      any_large h (types_in (drop (i + 1) types)) ≡ any_large h (types_in types)
  large_behind b e not_so =
      sym (false_or (writes_large h t.now) (any_large h (types_in (drop (i + 1) types))) (sym e ∙ not_so)) ∙ split_any
