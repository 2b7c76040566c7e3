-- Items of lists whose items all have a property.
use Rattle.std.proofs.Common.{◌≡◌, ℕ, zero, suc, List, [], ◌∷◌}
use Rattle.std.proofs.Common.{Some, slice_get, subst}
use Rattle.std.specs.Prelude.{All}
use Rattle.std.proofs.lemmas.List.Elements.{All-head, All-tail}

-- the item of a number has it
pub item_has : {A : Type 0} (P : A → Type 0) (xs : List A) (n : ℕ) (x : A) → slice_get xs n ≡ Some x → All P xs → P x
item_has P [] n x e all = absurd (cc)
item_has P (y ∷ xs) zero x e all = let same : y ≡ x = cc in subst P same (All-head P y xs all)
item_has P (y ∷ xs) (suc n) x e all = item_has P xs n x e (All-tail P y xs all)
