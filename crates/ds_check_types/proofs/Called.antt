-- The one function that has a name.
use Rattle.std.proofs.Common.{◌≡◌, ◌↔◌, IsTrue, Bool, false, List, [], ◌∷◌, ◌++◌, map, refl, sym, ◌∙◌, subst, ap}
use Rattle.std.proofs.Common.{true≢false, inl, inr}
use Rattle.ds_ast.specs.declared.name.Name.{Name}
use Rattle.ds_ast.specs.declared.ty.Ty.{Ty}
use Rattle.ds_ast.specs.declared.operand.Operand.{Operand}
use Rattle.ds_ast.specs.declared.value.Value.TheVariants.{Global}
use Rattle.ds_ast.specs.declared.module.Module.{Module}
use Rattle.ds_ast.specs.declared.module.Function.{Function}
use Rattle.ds_ast.specs.declared.instr.Op.TheVariants.{Call}
use Rattle.ds_names.specs.Names.{Among}
use Rattle.ds_shape.specs.Types.{Stands, IsFunction, IsThreadStart, KeepsRule, ArePassed}
use Rattle.ds_check_names.specs.Scope.{IsFunctionOf}
use Rattle.ds_shape.specs.Externals.{IsThreadFunction}

-- a function that stands there has a name of theirs
named : (g : Function) (before after : List Function)
    → Among g.name (map (λ (f : Function). f.name) (before ++ g ∷ after))
named g [] after = inl refl
named g (f ∷ before) after = inr (named g before after)

is_function : (m : Module) (name : Name) (g : Function) → Stands g m.functions → g.name ≡ name → IsFunction m name
is_function m name g stands called =
    subst (λ q. IsFunction m q) called
    (subst (λ (fs : List Function). Among g.name (map (λ (f : Function). f.name) fs)) (sym stands.2)
    (named g stands.0 stands.1))

-- the one function of the name is what a thread starts with
pub starts_here : (m : Module) (name : Name) (g : Function) (b : Bool) → IsFunctionOf m name g
    → (IsTrue b ↔ IsThreadFunction g) → IsTrue b ↔ IsThreadStart m (Global name)
starts_here m name g b one fits =
    (λ t. (g, one.stands, one.called, fits.0 t), λ h. fits.1 (subst IsThreadFunction (one.alone h.0 h.1 h.2) h.3))

pub starts_nowhere : (m : Module) (name : Name) → (IsFunction m name → ⊥)
    → IsTrue false ↔ IsThreadStart m (Global name)
starts_nowhere m name no_function =
    (λ t. absurd (true≢false (sym t)), λ h. absurd (no_function (is_function m name h.0 h.1 h.2)))

module _ (m : Module) (f : Function) where
  -- the one function of the name is called
  pub called_here : (t : Ty) (name : Name) (args : List Operand) (g : Function) (b : Bool) → IsFunctionOf m name g
      → t ≡ g.result → (IsTrue b ↔ ArePassed m f g args)
      → IsTrue b ↔ KeepsRule m f (Call t name args)
  called_here t name args g b one same fits = (
    λ yes'. (g, one.stands, one.called, same, fits.0 yes'),
    λ h. fits.1 (subst (λ k. ArePassed m f k args) (one.alone h.0 h.1 h.2) h.4),
  )

  pub other_result : (t : Ty) (name : Name) (args : List Operand) (g : Function) → IsFunctionOf m name g
      → (t ≡ g.result → ⊥) → IsTrue false ↔ KeepsRule m f (Call t name args)
  other_result t name args g one other = (
    λ yes'. absurd (true≢false (sym yes')),
    λ h. absurd (other (h.3 ∙ ap (λ (k : Function). k.result) (one.alone h.0 h.1 h.2))),
  )

  pub called_nowhere : (t : Ty) (name : Name) (args : List Operand) → (IsFunction m name → ⊥)
      → IsTrue false ↔ KeepsRule m f (Call t name args)
  called_nowhere t name args no_function =
      (λ yes'. absurd (true≢false (sym yes')), λ h. absurd (no_function (is_function m name h.0 h.1 h.2)))
