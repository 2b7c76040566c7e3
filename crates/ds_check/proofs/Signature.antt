-- When a function has a signature, by its parts.
use Rattle.std.proofs.Common.{◌≡◌, ◌↔◌, IsTrue, ℕ, Bool, false, List, true≢false, sym}
use Rattle.ds_ast.specs.declared.ty.Scalar.{Scalar}
use Rattle.ds_ast.specs.declared.ty.Ty.{Ty}
use Rattle.ds_ast.specs.declared.module.Function.{Function}
use Rattle.ds_shape.specs.Externals.{IsCalled, HasSignature, parameter_types, signature}

-- by its parameters, where name and result fit
pub fits : (f : Function) (name : List ℕ) (gives : Ty) (types : List Scalar) (b : Bool) → IsCalled name f.name
    → f.result ≡ gives → (IsTrue b ↔ (parameter_types f ≡ types))
    → IsTrue b ↔ HasSignature f (signature name gives types)
fits f name gives types b called same takes =
    (λ t. record { called = called; gives = same; takes = takes.0 t }, λ h. takes.1 h.takes)

pub other_name : (f : Function) (name : List ℕ) (gives : Ty) (types : List Scalar) → (IsCalled name f.name → ⊥)
    → IsTrue false ↔ HasSignature f (signature name gives types)
other_name f name gives types no_name = (λ t. absurd (true≢false (sym t)), λ h. absurd (no_name h.called))

pub other_result : (f : Function) (name : List ℕ) (gives : Ty) (types : List Scalar) → (f.result ≡ gives → ⊥)
    → IsTrue false ↔ HasSignature f (signature name gives types)
other_result f name gives types no_result = (λ t. absurd (true≢false (sym t)), λ h. absurd (no_result h.gives))
