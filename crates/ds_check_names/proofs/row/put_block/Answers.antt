use Rattle.std.proofs.Common.{[], ◌∷◌, append_assoc}
use Rattle.ds_check_names.specs.Entries.{names_of, code_entries}
use Rattle.ds_check_names.proofs.Faults.{passed_on}
use Rattle.ds_check_names.proofs.row.put_block.Goals as goal

pub returns-in_err-put_entry-clause-refused : goal.returns-in_err-put_entry-clause-refused
returns-in_err-put_entry-clause-refused c =
    passed_on c.from_residual.result c.in_err-put_entry.field-0.0 _
    (names_of (code_entries c.args.number 0 c.args.block.now.code)) _
    (append_assoc c.args.row.now.names (c.args.block.now.name ∷ [])
    (names_of (code_entries c.args.number 0 c.args.block.now.code)))
    c.from_residual.ensures c.in_err-put_entry.ensures.refused
