-- What a function is passed.
use Rattle.std.proofs.Common.{◌≡◌, ◌↔◌, IsTrue, ℕ, Bool, false, true≢false, sym, arith}
use Rattle.ds_ast.specs.declared.value.Value.TheVariants.{Null}
use Rattle.ds_ast.specs.declared.operand.Operand.{Operand}
use Rattle.ds_ast.specs.declared.module.Module.{Module}
use Rattle.ds_ast.specs.declared.module.Function.{Function}
use Rattle.ds_ast.specs.declared.module.Param.{Param}
use Rattle.ds_shape.specs.Externals.{TakesFunction, TakesNull}
use Rattle.ds_shape.specs.Types.{IsPassedAs, IsThreadStart, IsTypedOperand}

-- the argument behind so many others is one of the parameter
abbrev pub IsArgument : Module → Function → Function → ℕ → Operand → Param → Type 0
IsArgument m f g n o p = (o.ty ≡ p.ty) × IsPassedAs m f g n o

-- no place takes both null and a function
apart : (g : Function) (n : ℕ) → TakesFunction g n → TakesNull g n → ⊥
apart g n takes null = let third : n ≡ 2 = takes.0 in let second : n ≡ 1 = null.0 in omega (arith, third, second)

module _ (m : Module) (f g : Function) (n : ℕ) (o : Operand) where
  pub function_passed : (b : Bool) → TakesFunction g n → (IsTrue b ↔ IsThreadStart m o.value)
      → IsTrue b ↔ IsPassedAs m f g n o
  function_passed b takes fits = (
    λ t. (λ _. fits.0 t, λ other. absurd (other takes), λ null. absurd (apart g n takes null)),
    λ p. fits.1 (p.0 takes),
  )

  pub no_null : ((TakesNull g n → o.value ≡ Null) → ⊥) → IsTrue false ↔ IsPassedAs m f g n o
  no_null other = (λ t. absurd (true≢false (sym t)), λ p. absurd (other p.2))

  pub operand_passed : (b : Bool) → (TakesFunction g n → ⊥) → (TakesNull g n → o.value ≡ Null)
      → (IsTrue b ↔ IsTypedOperand m f o) → IsTrue b ↔ IsPassedAs m f g n o
  operand_passed b other null fits =
      (λ t. (λ takes. absurd (other takes), λ _. fits.0 t, null), λ p. fits.1 (p.1 other))
