use Rattle.std.proofs.Common.{◌≡◌, ◌++◌, take, map}
use Rattle.std.specs.Option.{option_copied}
use Rattle.ds_lex.specs.Written.{written}
use Rattle.ds_print.specs.Canonical.{listed_behind_space}
use Rattle.ds_print.specs.Parts.{part_pieces, parts_in_order}
use Rattle.ds_print.proofs.globals.+init.Given as goal

-- the elements so far were added
abbrev pub invariant-push_elements-loop-index : goal.invariant-push_elements-loop-index
invariant-push_elements-loop-index l = l.text.items ≡ l.fn.text.items
    ++ written (listed_behind_space (map (part_pieces l.fn.lines (option_copied l.fn.ty)) (take l.index l.parts)))

-- the fields so far were added
abbrev pub invariant-push_fields-loop-index : goal.invariant-push_fields-loop-index
invariant-push_fields-loop-index l = l.text.items ≡ l.fn.text.items
    ++ written (listed_behind_space (parts_in_order l.fn.lines l.fn.types (take l.index l.parts)))
