use Rattle.std.proofs.Common.{◌<◌, length, map, refl, arith}
use Rattle.ds_ast.specs.declared.module.GlobalDef.{GlobalDef}
use Rattle.ds_check_names.proofs.Lists.{one_more}
use Rattle.ds_check_names.proofs.Faults.{passed_on}
use Rattle.ds_check_names.proofs.entities.put_globals.Goals as goal

pub returns-in_err-put-clause-refused : goal.returns-in_err-put-clause-refused
returns-in_err-put-clause-refused c =
    let inside : c.loop-global.global-index < length c.args.globals.now = omega (arith, c.loop-global-test.true) in
    passed_on c.from_residual.result c.in_err-put.field-0.0 _ _ _
    (one_more (map (λ (x : GlobalDef). x.name)) c.loop-global.names _ c.args.globals.now c.loop-global.global-index _
    c.global-item.result c.global-item.result.name inside c.global-item.is refl
    (λ rest. refl) c.loop-global.invariant.0)
    c.from_residual.ensures c.in_err-put.ensures.refused
