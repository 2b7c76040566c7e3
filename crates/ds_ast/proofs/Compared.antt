-- A comparison by value answers what the test says.
use Rattle.std.proofs.Common.{◌≡◌, ◌↔◌, Bool, IsTrue}
use Rattle.std.specs.Cmp.{both_ways}
use Rattle.std.specs.Coded.{Coded}
use Rattle.ds_ast.specs.Equality.{is_equal, equal_is, is_equal_of}

module _ {A : Type 0} (c : Coded A) where
  pub tells_equal : (x y : A) (b : Bool) → (IsTrue b ↔ (x ≡ y)) → b ≡ is_equal c x y
  tells_equal x y b d = both_ways b (is_equal c x y) (λ t. is_equal_of c x y (d.0 t)) (λ t. d.1 (equal_is c x y t))
