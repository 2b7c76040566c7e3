use Rattle.std.proofs.Common.{sym, ◌∙◌, subst, true≢false}
use Rattle.ds_ast.specs.declared.module.Module.{Module}
use Rattle.ds_ast.specs.declared.module.GlobalDef.{GlobalDef}
use Rattle.ds_shape.specs.Types.{IsInitial}
use Rattle.ds_shape.specs.Breaches.{item_breaks, item_kept, items_kept}
use Rattle.ds_check.proofs.bodies.are_globals_initial.Goals as goal

pub returns-then-not-is_initial : goal.returns-then-not-is_initial
returns-then-not-is_initial c =
    item_breaks (λ (g : GlobalDef). IsInitial c.args.module.now g.ty g.init) c.args.module.now.globals
    c.as_slice-g-items.result.now c.loop-g.g-index c.g-item.result
    c.as_slice-g-items.ensures c.loop-g-test.true c.g-item.is
    (λ fits. true≢false (sym
    (c.is_initial.ensures.1
    (subst (λ (m : Module). IsInitial m c.g-item.result.ty c.g-item.result.init) (sym c.requires.module) fits))
    ∙ c.if-not-is_initial.true))

pub loop-g-preserved : goal.loop-g-preserved
loop-g-preserved c =
    item_kept (λ (g : GlobalDef). IsInitial c.args.module.now g.ty g.init) c.args.module.now.globals
    c.as_slice-g-items.result.now c.loop-g.g-index c.g-item.result
    c.as_slice-g-items.ensures c.loop-g-test.true c.g-item.is c.loop-g.invariant
    (subst (λ (m : Module). IsInitial m c.g-item.result.ty c.g-item.result.init) c.requires.module
    (c.is_initial.ensures.0 c.if-not-is_initial.false))

pub returns : goal.returns
returns c =
    items_kept (λ (g : GlobalDef). IsInitial c.args.module.now g.ty g.init) c.args.module.now.globals
    c.as_slice-g-items.result.now c.loop-g.g-index
    c.as_slice-g-items.ensures c.loop-g-test.false c.loop-g.invariant
