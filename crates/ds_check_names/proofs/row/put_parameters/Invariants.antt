use Rattle.std.proofs.Common.{◌≡◌, ◌++◌, drop}
use Rattle.ds_names.specs.Names.{AreDistinct}
use Rattle.ds_check_names.specs.Entries.{names_of, meanings_of, parameter_entries}
use Rattle.ds_check_names.proofs.row.put_parameters.Given as goal

-- what stands there now, and what remains
abbrev pub invariant-loop-param : goal.invariant-loop-param
invariant-loop-param l =
    (l.row.names ++ names_of (parameter_entries (drop l.param-index l.params)) ≡ l.fn.row.names
    ++ names_of (parameter_entries l.params))
    × (l.row.meanings.items ++ meanings_of (parameter_entries (drop l.param-index l.params)) ≡ l.fn.row.meanings.items
    ++ meanings_of (parameter_entries l.params))
    × (AreDistinct l.fn.row.names → AreDistinct l.row.names)
