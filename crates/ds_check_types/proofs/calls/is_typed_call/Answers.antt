use Rattle.std.proofs.Common.{sym, ◌∙◌, true≢false}
use Rattle.ds_check_types.proofs.Called.{called_here, other_result, called_nowhere}
use Rattle.ds_check_types.proofs.calls.is_typed_call.Goals as goal

pub returns-then-eq : goal.returns-then-eq
returns-then-eq c =
    called_here c.args.entities.now c.args.locals.now c.args.result_type.now c.args.callee.now c.args.arguments.now
    c.in-Some.function.now c.are_passed.result c.in-Some.ensures.some
    (c.eq.ensures.value.0 c.if-eq.true) c.are_passed.ensures

pub returns-else-eq : goal.returns-else-eq
returns-else-eq c =
    other_result c.args.entities.now c.args.locals.now c.args.result_type.now c.args.callee.now c.args.arguments.now
    c.in-Some.function.now c.in-Some.ensures.some
    (λ same. true≢false (sym (c.eq.ensures.value.1 same) ∙ c.if-eq.false))

pub returns-in-None : goal.returns-in-None
returns-in-None c = called_nowhere c.args.entities.now c.args.locals.now c.args.result_type.now c.args.callee.now
    c.args.arguments.now c.in-None.ensures.none
