use Rattle.std.proofs.Common.{ℕ, List, [], replicate, ap, ◌∙◌}
use Rattle.ds_step.specs.declared.Step.{Step}
use Rattle.ds_core.proofs.Recorded.{runs_first}
use Rattle.ds_core.proofs.replaying.Recorder.new.Goals as goal

pub returns : goal.returns
returns c =
    runs_first c.nothing_stands.ensures c.args.code.now c.args.limits.now c.args.schedule.now.cues
    c.args.schedule.now.seed _ _ _ _ _ _ c.image.ensures c.in_ok-table.ensures.first c.in_ok-table.ensures.len
    c.in_ok-actors.ensures
    (c.in_ok-traces.ensures ∙ ap (λ (n : ℕ). replicate {A = List Step} n []) c.from.ensures) c.new-2.ensures
    c.new-3.ensures
