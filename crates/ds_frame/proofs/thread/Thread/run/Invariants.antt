use Rattle.std.proofs.Common.{◌-◌, ◌≡◌, ◌≤◌, length}
use Rattle.ds_frame.specs.Coming.{comes_from}
use Rattle.ds_frame.specs.Threads.{runs}
use Rattle.ds_frame.proofs.thread.Thread.run.Given as goal

-- from here the thread comes where it comes from the first instruction on
abbrev pub invariant-loop-self : goal.invariant-loop-self
invariant-loop-self l = record {
  same : comes_from (runs l.code l.fn.self) l.fn.self.place l.self-inside.units l.self-inside.frames
      ≡ comes_from (runs l.code l.fn.self) l.fn.self.place l.fn.self.units l.fn.self.machine;
  limits : l.self-inside.limits ≡ l.fn.self.lim;
  number : l.self-inside.number ≡ l.fn.self.number;
  place : l.self-inside.place ≡ l.fn.self.place;
  row : length l.self-inside.row.items ≡ l.fn.self.row;
  paid : l.self-inside.units ≤ l.self-inside.limits.fuel;
}

abbrev pub decreases-loop-self : goal.decreases-loop-self
decreases-loop-self l = l.fuel - l.self-inside.units
