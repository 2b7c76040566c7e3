use Rattle.std.proofs.Common.{◌≡◌, ◌≤◌, ◌++◌, length, take}
use Rattle.ds_schedule.specs.Kept.{may_by, threads_from}
use Rattle.ds_schedule.proofs.listed.Turning.of.Given as goal

-- the threads that were listed, and those that are left
abbrev pub invariant-loop-thread : goal.invariant-loop-thread
invariant-loop-thread l = record {
  few : l.count ≤ l.thread;
  sixteen : length l.threads ≡ 16;
  all : take l.count l.threads ++ threads_from (may_by l.given l.ended) l.thread
      ≡ threads_from (may_by l.given l.ended) 0;
}
