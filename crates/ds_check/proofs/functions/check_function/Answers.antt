use Rattle.std.proofs.Common.{◌<◌, ◌^◌, length, arith}
use Rattle.ds_shape.specs.Placed.{placed_of, KeepsTargets, BreaksFirst}
use Rattle.ds_check.proofs.FunctionFaults.{breaks_inside, good_body}
use Rattle.ds_check.proofs.functions.check_function.Goals as goal

pub returns-in-Err-clause-refused : goal.returns-in-Err-clause-refused
returns-in-Err-clause-refused c = c.in-Err.ensures.refused c.args.entities.now

pub overflow_cast-result : goal.overflow_cast-result
overflow_cast-result c =
    let first : BreaksFirst (KeepsTargets c.args.function.now) c.args.function.now c.in-Some.i =
    c.in-Some.ensures.some in
    let inside : c.in-Some.i < length (placed_of c.args.function.now) =
    breaks_inside (KeepsTargets c.args.function.now) c.args.function.now c.in-Some.i first in
    let few : length (placed_of c.args.function.now) < 2 ^ 32 = c.requires.few.1 in
    omega (arith, inside, few)

pub returns-clause-good : goal.returns-clause-good
returns-clause-good c =
    good_body c.args.entities.now c.args.function.now c.check_body.result c.requires.bounds c.requires.stands
    c.requires.defined
    (record { no_twice_local = c.in-Ok.ensures.named.1; no_bad_block = c.in-None.ensures.none })
    c.check_body.ensures.kept
