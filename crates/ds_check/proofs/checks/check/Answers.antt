use Rattle.ds_check.proofs.FirstTold.{only_memory, first_told}
use Rattle.ds_check.proofs.checks.check.Goals as goal

pub returns-clause-only : goal.returns-clause-only
returns-clause-only c = only_memory c.args.module.now c.first_fault.result c.first_fault.ensures.refused

pub returns-clause-first : goal.returns-clause-first
returns-clause-first c fault = first_told c.args.module.now c.first_fault.result fault c.first_fault.ensures.accepted
    c.first_fault.ensures.refused
