use Rattle.std.proofs.Common.{◌≡◌, ◌<◌, ◌+◌, ◌-◌, length, slice_get, ap, ◌∙◌, subst, arith}
use Rattle.std.specs.Prelude.{IfSome, IfNone}
use Rattle.ds_ast.specs.declared.module.Module.{Module}
use Rattle.ds_shape.specs.Types.{IsFunction}
use Rattle.ds_check_names.specs.Scope.{IsFunctionOf}
use Rattle.ds_check_names.proofs.Found.{not_first, not_none, function_found, function_not_found}
use Rattle.ds_check_names.proofs.entities.Entities.function.Goals as goal

pub returns-then-place-globals-clause-none : goal.returns-then-place-globals-clause-none
returns-then-place-globals-clause-none c =
    subst (λ (m : Module). IsFunction m c.args.name.now → ⊥) c.self.view_is
    (not_first c.places_are_exact.ensures c.places_are_unique.ensures c.self.inside.module.now c.self.inside.names
    c.args.name.now c.place.result c.self.invariant c.place.ensures
    c.in-Some.place c.in-Some.is (subst (λ n. c.in-Some.place < n) c.len-globals.ensures c.if-place-globals.true))

pub returns-else-place-globals-clause-some : goal.returns-else-place-globals-clause-some
returns-else-place-globals-clause-some c =
    let m : Module = c.self.inside.module.now in
    let at : c.in-Some.place ≡ length m.globals + (c.in-Some.place - c.len-globals.result) =
    omega (arith, c.len-globals.ensures, c.if-place-globals.false) in
    subst (λ (m : Module). IfSome c.function_at.result (λ g. IsFunctionOf m c.args.name.now g.now)) c.self.view_is
    (function_found c.places_are_exact.ensures c.places_are_unique.ensures c.self.inside.module.now c.self.inside.names
    c.args.name.now c.place.result c.self.invariant c.place.ensures
    c.in-Some.place (c.in-Some.place - c.len-globals.result) c.in-Some.is at c.function_at.result
    (c.function_at.ensures ∙ ap (λ fs. slice_get fs (c.in-Some.place - c.len-globals.result)) c.as_slice.ensures))

pub returns-else-place-globals-clause-none : goal.returns-else-place-globals-clause-none
returns-else-place-globals-clause-none c =
    let m : Module = c.self.inside.module.now in
    let at : c.in-Some.place ≡ length m.globals + (c.in-Some.place - c.len-globals.result) =
    omega (arith, c.len-globals.ensures, c.if-place-globals.false) in
    subst (λ (m : Module). IfNone c.function_at.result (IsFunction m c.args.name.now → ⊥)) c.self.view_is
    (function_not_found c.places_are_exact.ensures c.places_are_unique.ensures c.self.inside.module.now
    c.self.inside.names c.args.name.now c.place.result c.self.invariant c.place.ensures
    c.in-Some.place (c.in-Some.place - c.len-globals.result) c.in-Some.is at c.function_at.result
    (c.function_at.ensures ∙ ap (λ fs. slice_get fs (c.in-Some.place - c.len-globals.result)) c.as_slice.ensures))

pub returns-in-None-clause-none : goal.returns-in-None-clause-none
returns-in-None-clause-none c =
    subst (λ (m : Module). IsFunction m c.args.name.now → ⊥) c.self.view_is
    (not_none c.places_are_exact.ensures c.places_are_unique.ensures c.self.inside.module.now c.self.inside.names
    c.args.name.now c.place.result c.self.invariant c.place.ensures
    c.in-None.is)
