use Rattle.std.proofs.Common.{◌<◌, length, refl, arith}
use Rattle.ds_check_names.specs.Entries.{Entry, block_entry, block_entries}
use Rattle.ds_check_names.proofs.Lists.{one_step}
use Rattle.ds_check_names.proofs.Faults.{passed_on}
use Rattle.ds_check_names.proofs.row.put_blocks.Goals as goal

pub returns-in_err-put_block-clause-refused : goal.returns-in_err-put_block-clause-refused
returns-in_err-put_block-clause-refused c =
    let inside : c.loop-number.number < length c.args.blocks.now = omega (arith, c.loop-number-test.true) in
    passed_on c.from_residual.result c.in_err-put_block.field-0.0 _ _ _
    (one_step block_entries block_entry (λ (e : Entry). e.name) c.loop-number.row.names _ c.args.blocks.now
    c.loop-number.number _ c.index-blocks-number.result
    inside c.index-blocks-number.is refl (λ rest. refl) c.loop-number.invariant.0)
    c.from_residual.ensures c.in_err-put_block.ensures.refused
