use Rattle.ds_ast.specs.declared.instr.Instr.{Instr}
use Rattle.ds_check_blocks.specs.Leads.{LeadsBy}
use Rattle.ds_check_blocks.proofs.Standing.{none_yet, one_more, of_all}
use Rattle.ds_check_blocks.proofs.Leads.{further, none_in, through}
use Rattle.ds_check_blocks.proofs.edges.targets_of_code.Goals as goal

pub loop-instr-init : goal.loop-instr-init
loop-instr-init c = λ b. none_in _ b c.new-row.result.items c.new-row.ensures.items
    (none_yet (λ (i : Instr). LeadsBy c.args.locals.now b i.op) c.args.code.now)

pub loop-instr-preserved : goal.loop-instr-preserved
loop-instr-preserved c = λ b.
    further _ _ _ b c.loop-instr.row.items c.push_targets.new.row.items (c.loop-instr.invariant b)
    (one_more (λ (i : Instr). LeadsBy c.args.locals.now b i.op) c.args.code.now c.loop-instr.instr-index
    c.instr-item.result c.loop-instr-test.true c.instr-item.is)
    (c.in_ok-push_targets.ensures b)

pub returns : goal.returns
returns c = λ b. through _ _ _ (c.loop-instr.invariant b)
    (of_all (λ (i : Instr). LeadsBy c.args.locals.now b i.op) c.args.code.now c.loop-instr.instr-index
    c.loop-instr-test.false)
