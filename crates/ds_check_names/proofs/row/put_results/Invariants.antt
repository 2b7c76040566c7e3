use Rattle.std.proofs.Common.{◌≡◌, ◌++◌, drop}
use Rattle.ds_names.specs.Names.{AreDistinct}
use Rattle.ds_check_names.specs.Entries.{names_of, meanings_of, code_entries}
use Rattle.ds_check_names.proofs.row.put_results.Given as goal

-- what stands there now, and what remains
abbrev pub invariant-loop-index : goal.invariant-loop-index
invariant-loop-index l =
    (l.row.names ++ names_of (code_entries l.block l.index (drop l.index l.code)) ≡ l.fn.row.names
    ++ names_of (code_entries l.block 0 l.code))
    × (l.row.meanings.items
    ++ meanings_of (code_entries l.block l.index (drop l.index l.code)) ≡ l.fn.row.meanings.items
    ++ meanings_of (code_entries l.block 0 l.code))
    × (AreDistinct l.fn.row.names → AreDistinct l.row.names)
