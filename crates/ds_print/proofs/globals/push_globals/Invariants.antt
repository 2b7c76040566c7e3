use Rattle.std.proofs.Common.{◌≡◌, ◌++◌, take}
use Rattle.std.specs.List.{flat_map}
use Rattle.ds_lex.specs.Written.{written}
use Rattle.ds_print.specs.Canonical.{global_pieces}
use Rattle.ds_print.proofs.globals.push_globals.Given as goal

-- what the list has so far was added
abbrev pub invariant-loop-global : goal.invariant-loop-global
invariant-loop-global l =
    l.text.items ≡ l.fn.text.items ++ written (flat_map (global_pieces l.fn.lines) (take l.global-index l.globals))
