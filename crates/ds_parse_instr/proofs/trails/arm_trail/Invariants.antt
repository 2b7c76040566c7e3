-- What is read from here, behind these arms, is what is read from the first token on.
use Rattle.std.proofs.Common.{◌≡◌, length, [], ◌∷◌}
use Rattle.ds_grammar.specs.declared.item.Stage.TheVariants.{Items}
use Rattle.ds_grammar.specs.Reading.{value_at}
use Rattle.ds_grammar.specs.Instructions.{arms_from}
use Rattle.ds_parse_instr.proofs.trails.arm_trail.Given as goal

abbrev pub invariant-loop-ending : goal.invariant-loop-ending
invariant-loop-ending l =
    value_at (arms_from l.ty (l.arms, l.stage)) l.rest ≡ value_at (arms_from l.ty (l.fn.first ∷ [], Items)) l.fn.rest

abbrev pub decreases-loop-ending : goal.decreases-loop-ending
decreases-loop-ending l = length l.rest.left
