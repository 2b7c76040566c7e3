use Rattle.ds_report.specs.Stop.{stop_line}
use Rattle.ds_report.proofs.Numbered.{lines_from_more}
use Rattle.ds_report.proofs.stop.push_stop_lines.Goals as goal

pub loop-thread-preserved : goal.loop-thread-preserved
loop-thread-preserved c = lines_from_more (stop_line c.args.names.now) c.args.stops.now c.loop-thread.thread _ _ _ _
    c.loop-thread-test.true c.loop-thread.invariant c.in_ok-push_stop_line.ensures
