use Rattle.std.proofs.Common.{ap, sym, ◌∙◌}
use Rattle.ds_plain.specs.declared.StartAt.{StartAt}
use Rattle.ds_plain.specs.Starting.{start_next}
use Rattle.ds_code.specs.CodeProgram.{program_of}
use Rattle.ds_actor.proofs.start.start_step.Goals as goal

pub returns-in-LoadStart : goal.returns-in-LoadStart
returns-in-LoadStart c = λ lim.
    c.opened.ensures lim
    ∙ ap (λ (x : StartAt). start_next (program_of lim c.args.code.now) c.args.thread x c.args.old)
    (sym c.in-LoadStart.is)

pub returns-in-LoadFunction : goal.returns-in-LoadFunction
returns-in-LoadFunction c = λ lim.
    c.learned.ensures c.args.thread lim
    ∙ ap (λ (x : StartAt). start_next (program_of lim c.args.code.now) c.args.thread x c.args.old)
    (sym c.in-LoadFunction.is)
