use Rattle.std.proofs.Common.{◌<◌, ◌^◌, length, inr, subst, sym, arith}
use Rattle.std.specs.Prelude.{IfSome}
use Rattle.ds_shape.specs.Placed.{placed_of}
use Rattle.ds_check.specs.Broken.{IsFirstBroken}
use Rattle.ds_check.specs.Fault.{HasFunctionFault}
use Rattle.ds_check.proofs.FunctionFaults.{broken_inside, broken_function}
use Rattle.ds_check.proofs.functions.check_instructions.Goals as goal

pub overflow_cast-broken : goal.overflow_cast-broken
overflow_cast-broken c =
    let first : IsFirstBroken c.args.entities.now c.args.function.now c.in-Some.broken =
    subst (λ o. IfSome o (IsFirstBroken c.args.entities.now c.args.function.now)) c.in-Some.is
    c.in_ok-broken.ensures.some in
    let inside : c.in-Some.broken.number < length (placed_of c.args.function.now) =
    broken_inside c.args.entities.now c.args.function.now c.in-Some.broken first in
    let few : length (placed_of c.args.function.now) < 2 ^ 32 = c.requires.few.1 in
    omega (arith, inside, few)

pub returns-in-Some-clause-refused : goal.returns-in-Some-clause-refused
returns-in-Some-clause-refused c =
    let first : IsFirstBroken c.args.entities.now c.args.function.now c.in-Some.broken =
    subst (λ o. IfSome o (IsFirstBroken c.args.entities.now c.args.function.now)) c.in-Some.is
    c.in_ok-broken.ensures.some in
    inr (subst (HasFunctionFault c.args.entities.now c.args.f c.args.function.now) (sym c.broken_fault.ensures)
    (broken_function c.args.entities.now c.args.function.now c.args.f c.in-Some.broken c.requires.labels first))
