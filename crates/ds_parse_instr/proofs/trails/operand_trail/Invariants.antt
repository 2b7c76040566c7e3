-- What is read from here, behind these operands, is what is read from the first token on.
use Rattle.std.proofs.Common.{◌≡◌, length, []}
use Rattle.ds_grammar.specs.declared.item.Stage.TheVariants.{Items}
use Rattle.ds_grammar.specs.Reading.{value_at}
use Rattle.ds_grammar.specs.Instructions.{operands_from}
use Rattle.ds_parse_instr.proofs.trails.operand_trail.Given as goal

abbrev pub invariant-loop-ending : goal.invariant-loop-ending
invariant-loop-ending l = value_at (operands_from l.at_most_one (l.operands, l.stage)) l.rest
    ≡ value_at (operands_from l.at_most_one ([], Items)) l.fn.rest

abbrev pub decreases-loop-ending : goal.decreases-loop-ending
decreases-loop-ending l = length l.rest.left
