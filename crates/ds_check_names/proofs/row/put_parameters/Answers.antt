use Rattle.std.proofs.Common.{◌<◌, List, length, refl, arith}
use Rattle.ds_ast.specs.declared.module.Param.{Param}
use Rattle.ds_check_names.specs.Entries.{names_of, parameter_entries}
use Rattle.ds_check_names.proofs.Lists.{one_more}
use Rattle.ds_check_names.proofs.Faults.{passed_on}
use Rattle.ds_check_names.proofs.row.put_parameters.Goals as goal

pub returns-in_err-put_entry-clause-refused : goal.returns-in_err-put_entry-clause-refused
returns-in_err-put_entry-clause-refused c =
    let inside : c.loop-param.param-index < length c.args.params.now = omega (arith, c.loop-param-test.true) in
    passed_on c.from_residual.result c.in_err-put_entry.field-0.0 _ _ _
    (one_more (λ (ps : List Param). names_of (parameter_entries ps)) c.loop-param.row.names _ c.args.params.now
    c.loop-param.param-index _ c.param-item.result c.param-item.result.name
    inside c.param-item.is refl (λ rest. refl) c.loop-param.invariant.0)
    c.from_residual.ensures c.in_err-put_entry.ensures.refused
