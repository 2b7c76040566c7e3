use Rattle.std.proofs.Common.{length, take, ◌-◌, ◌≤◌}
use Rattle.ds_io.specs.Sink.{Takes}
use Rattle.ds_io.proofs.whole.write_all.Given as goal

-- the bytes before `done` were taken
abbrev pub invariant-pieces : goal.invariant-pieces
invariant-pieces g l =
    let sink = g.K.Sink in
    record {
      within : l.done ≤ length l.bytes;
      taken : Takes (sink.taken l.fn.sink) (take l.done l.bytes) (sink.taken l.sink);
      never_falls : sink.faults l.fn.sink ≤ sink.faults l.sink;
    }

abbrev pub decreases-pieces : goal.decreases-pieces
decreases-pieces g l = length l.bytes - l.done
