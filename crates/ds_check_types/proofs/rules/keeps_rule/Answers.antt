use Rattle.std.proofs.Common.{◌↔◌, ℕ, IsTrue, IfOk, map, sym, subst}
use Rattle.ds_ast.specs.declared.name.Name.{Name}
use Rattle.ds_ast.specs.declared.instr.Op.TheVariants.{Call, Ret}
use Rattle.ds_shape.specs.Types.{AreDistinctNumbers, IsWide, KeepsRule}
use Rattle.ds_check_types.proofs.rules.keeps_rule.Goals as goal

pub returns-in-Call : goal.returns-in-Call
returns-in-Call c =
    let passed = subst (λ args. IsTrue c.is_typed_call.result ↔ KeepsRule c.args.entities.now c.args.locals.now
    (Call c.in-Call.result c.in-Call.callee args)) c.as_slice-in-Call.ensures c.is_typed_call.ensures in
    subst (λ op. IsTrue c.is_typed_call.result ↔ KeepsRule c.args.entities.now c.args.locals.now op) (sym c.in-Call.is)
    passed

pub returns-in-Ret : goal.returns-in-Ret
returns-in-Ret c =
    let given = subst (λ f. IsTrue c.is_return.result ↔ KeepsRule c.args.entities.now f (Ret c.in-Ret.value))
    (sym c.requires.one_function) (c.is_return.ensures c.args.entities.now) in
    subst (λ op. IsTrue c.is_return.result ↔ KeepsRule c.args.entities.now c.args.locals.now op) (sym c.in-Ret.is)
    given

pub returns-in-Switch : goal.returns-in-Switch
returns-in-Switch c =
    let kept = subst
    (λ cases. IfOk c.is_switch.result
    (λ kept. IsTrue kept ↔ IsWide c.in-Switch.ty × AreDistinctNumbers (map (λ (c : ℕ × Name). c.0) cases)))
    c.as_slice-in-Switch.ensures c.is_switch.ensures in
    subst (λ op. IfOk c.is_switch.result (λ kept. IsTrue kept ↔ KeepsRule c.args.entities.now c.args.locals.now op))
    (sym c.in-Switch.is) kept
