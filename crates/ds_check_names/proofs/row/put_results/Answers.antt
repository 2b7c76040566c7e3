use Rattle.std.proofs.Common.{◌<◌, length, refl, arith}
use Rattle.ds_check_names.specs.Entries.{Entry, result_entries, code_entries}
use Rattle.ds_check_names.proofs.Lists.{one_step}
use Rattle.ds_check_names.proofs.Faults.{passed_on}
use Rattle.ds_check_names.proofs.row.put_results.Goals as goal

pub returns-in_err-put_result-clause-refused : goal.returns-in_err-put_result-clause-refused
returns-in_err-put_result-clause-refused c =
    let i = c.loop-index.index in
    let inside : c.loop-index.index < length c.args.code.now = omega (arith, c.loop-index-test.true) in
    passed_on c.from_residual.result c.in_err-put_result.field-0.0 _ _ _
    (one_step (code_entries c.args.block) (result_entries c.args.block) (λ (e : Entry). e.name) c.loop-index.row.names
    _ c.args.code.now c.loop-index.index _ c.index-code-index.result
    inside c.index-code-index.is refl (λ rest. refl) c.loop-index.invariant.0)
    c.from_residual.ensures c.in_err-put_result.ensures.refused
