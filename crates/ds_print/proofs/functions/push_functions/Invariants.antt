use Rattle.std.proofs.Common.{◌≡◌, ◌++◌, take}
use Rattle.std.specs.List.{flat_map}
use Rattle.ds_lex.specs.Written.{written}
use Rattle.ds_print.specs.Canonical.{function_pieces}
use Rattle.ds_print.proofs.functions.push_functions.Given as goal

-- what the list has so far was added
abbrev pub invariant-loop-function : goal.invariant-loop-function
invariant-loop-function l =
    l.text.items ≡ l.fn.text.items ++ written (flat_map function_pieces (take l.function-index l.functions))
