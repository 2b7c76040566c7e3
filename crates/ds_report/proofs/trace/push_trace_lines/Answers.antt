use Rattle.std.proofs.Common.{List, ◌++◌, ap, ◌∙◌}
use Rattle.ds_step.specs.declared.Step.{Step}
use Rattle.ds_report.specs.Trace.{thread_lines}
use Rattle.ds_report.proofs.Numbered.{lines_from_more}
use Rattle.ds_report.proofs.trace.push_trace_lines.Goals as goal

pub loop-thread-preserved : goal.loop-thread-preserved
loop-thread-preserved c = lines_from_more thread_lines c.args.traces.now c.loop-thread.thread _ _ _ _
    c.loop-thread-test.true c.loop-thread.invariant
    (c.in_ok-push_thread_lines.ensures
    ∙ ap (λ (steps : List Step). c.loop-thread.text.items ++ thread_lines c.loop-thread.thread steps)
    (c.as_slice.ensures ∙ c.index-traces-thread.is))
