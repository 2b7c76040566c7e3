use Rattle.std.proofs.Common.{◌≡◌, ◌++◌, drop}
use Rattle.ds_names.specs.Names.{AreDistinct}
use Rattle.ds_check_names.specs.Entries.{names_of, meanings_of, block_entries}
use Rattle.ds_check_names.proofs.row.put_blocks.Given as goal

-- what stands there now, and what remains
abbrev pub invariant-loop-number : goal.invariant-loop-number
invariant-loop-number l =
    (l.row.names ++ names_of (block_entries l.number (drop l.number l.blocks)) ≡ l.fn.row.names
    ++ names_of (block_entries 0 l.blocks))
    × (l.row.meanings.items ++ meanings_of (block_entries l.number (drop l.number l.blocks)) ≡ l.fn.row.meanings.items
    ++ meanings_of (block_entries 0 l.blocks))
    × (AreDistinct l.fn.row.names → AreDistinct l.row.names)
