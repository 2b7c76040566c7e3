-- What is read from here, behind these parts, is what is read from the first token on.
use Rattle.std.proofs.Common.{◌≡◌, length, []}
use Rattle.ds_grammar.specs.Reading.{value_at}
use Rattle.ds_parse.proofs.Runs.{module_from}
use Rattle.ds_parse.proofs.entities.module_parts.Given as goal

abbrev pub invariant-loop-parts : goal.invariant-loop-parts
invariant-loop-parts l = value_at (module_from l.parts) l.rest
    ≡ value_at (module_from (record { structs = []; globals = []; functions = [] })) l.fn.rest

abbrev pub decreases-loop-parts : goal.decreases-loop-parts
decreases-loop-parts l = length l.rest.left
