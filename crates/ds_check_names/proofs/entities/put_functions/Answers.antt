use Rattle.std.proofs.Common.{◌<◌, length, map, refl, arith}
use Rattle.ds_ast.specs.declared.module.Function.{Function}
use Rattle.ds_check_names.proofs.Lists.{one_more}
use Rattle.ds_check_names.proofs.Faults.{passed_on}
use Rattle.ds_check_names.proofs.entities.put_functions.Goals as goal

pub returns-in_err-put-clause-refused : goal.returns-in_err-put-clause-refused
returns-in_err-put-clause-refused c =
    let inside : c.loop-function.function-index < length c.args.functions.now =
    omega (arith, c.loop-function-test.true) in
    passed_on c.from_residual.result c.in_err-put.field-0.0 _ _ _
    (one_more (map (λ (x : Function). x.name)) c.loop-function.names _ c.args.functions.now
    c.loop-function.function-index _ c.function-item.result c.function-item.result.name inside c.function-item.is refl
    (λ rest. refl) c.loop-function.invariant.0)
    c.from_residual.ensures c.in_err-put.ensures.refused
