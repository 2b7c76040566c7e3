use Rattle.std.proofs.Common.{◌<◌, ◌^◌, length, subst, arith}
use Rattle.std.specs.Prelude.{IfSome}
use Rattle.ds_shape.specs.Placed.{placed_of, KeepsAssigned, BreaksFirst}
use Rattle.ds_check.proofs.FunctionFaults.{breaks_inside}
use Rattle.ds_check.proofs.functions.check_body.Goals as goal

pub overflow_cast-result : goal.overflow_cast-result
overflow_cast-result c =
    let first : BreaksFirst (KeepsAssigned c.args.function.now) c.args.function.now c.in-Some.i =
    subst (λ o. IfSome o (BreaksFirst (KeepsAssigned c.args.function.now) c.args.function.now)) c.in-Some.is
    c.in_ok-i.ensures.some in
    let inside : c.in-Some.i < length (placed_of c.args.function.now) =
    breaks_inside (KeepsAssigned c.args.function.now) c.args.function.now c.in-Some.i first in
    let few : length (placed_of c.args.function.now) < 2 ^ 32 = c.requires.few.1 in
    omega (arith, inside, few)
