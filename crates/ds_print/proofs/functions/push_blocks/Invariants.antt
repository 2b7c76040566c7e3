use Rattle.std.proofs.Common.{◌≡◌, ◌++◌, take}
use Rattle.std.specs.List.{flat_map}
use Rattle.ds_lex.specs.Written.{written}
use Rattle.ds_print.specs.Canonical.{block_pieces}
use Rattle.ds_print.proofs.functions.push_blocks.Given as goal

-- what the list has so far was added
abbrev pub invariant-loop-block : goal.invariant-loop-block
invariant-loop-block l =
    l.text.items ≡ l.fn.text.items ++ written (flat_map block_pieces (take l.block-index l.blocks))
