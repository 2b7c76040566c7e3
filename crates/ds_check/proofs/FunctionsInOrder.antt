-- The functions of a module, checked in order.
use Rattle.std.proofs.Common.{◌≡◌, ◌<◌, ◌+◌, ◌++◌, ℕ, suc, List, [], ◌∷◌, length, take, drop, slice_index_or, sym, ap}
use Rattle.std.proofs.Common.{◌∙◌, subst, arith}
use Rattle.std.specs.Prelude.{All}
use Rattle.std.proofs.Math.Seq.{split_at}
use Rattle.std.proofs.lemmas.List.{length-take}
use Rattle.ds_ast.specs.declared.module.Module.{Module}
use Rattle.ds_ast.specs.declared.module.Function.{Function}
use Rattle.ds_shape.specs.Types.{Stands}
use Rattle.ds_check.specs.declared.fault.TypeFault.{TypeFault}
use Rattle.ds_check.specs.Fault.{HasFunctionFault, HasFirstFunctionFault}
use Rattle.ds_shape.specs.Breaches.{stands_at, kept_more}
use Rattle.ds_shape.specs.Accepted.{IsGood}

module _ (e m : Module) (same : e ≡ m) (fs : List Function) (are : fs ≡ m.functions) (i : ℕ) (f : Function)
    (h : i < length fs) (is : f ≡ slice_index_or fs i f) where
  there : i < length m.functions
  there = subst (λ gs. i < length gs) are h

  at : f ≡ slice_index_or m.functions i f
  at = is ∙ ap (λ gs. slice_index_or gs i f) are

  pub function_stands : Stands f e.functions
  function_stands = subst (λ (x : Module). Stands f x.functions) (sym same) (stands_at m.functions i f there at)

  module _ (kept : All (IsGood m) (take i m.functions)) where
    pub first_fault : (fault : TypeFault) → ((f.blocks ≡ [] → ⊥) × HasFunctionFault e i f fault)
        → HasFirstFunctionFault m fault
    first_fault fault has =
        let many : length (take i m.functions) ≡ i = let l = length-take i m.functions in grind (arith, l, there) in
        let mine : HasFunctionFault m (length (take i m.functions)) f fault =
        subst (λ k. HasFunctionFault m k f fault) (sym many)
        (subst (λ (x : Module). HasFunctionFault x i f fault) same has.1) in (
          take i m.functions,
          f,
          drop (suc i) m.functions,
          split_at m.functions i f there
              ∙ ap (λ g. take i m.functions ++ g ∷ drop (suc i) m.functions) (sym at),
          kept,
          has.0,
          mine,
        )

    pub one_more_good : IsGood e f → All (IsGood m) (take (i + 1) m.functions)
    one_more_good good =
        kept_more (IsGood m) m.functions i f there at kept (subst (λ (x : Module). IsGood x f) same good)
