use Rattle.std.proofs.Common.{◌≡◌, ◌≤◌, ◌*◌, ◌^◌, take}
use Rattle.ds_report.specs.Counts.{count_of}
use Rattle.ds_report.specs.declared.counts.Tally.TheVariants.{Malloc, Free, Note, Mark}
use Rattle.ds_report.proofs.counts.counts_of.Given as goal

-- the traces so far were counted, each of fewer than 2 ^ 64 steps
abbrev pub invariant-loop-steps : goal.invariant-loop-steps
invariant-loop-steps l = record {
  mallocs : l.all.mallocs ≡ count_of (take l.steps-index l.traces) Malloc;
  frees : l.all.frees ≡ count_of (take l.steps-index l.traces) Free;
  notes : l.all.notes ≡ count_of (take l.steps-index l.traces) Note;
  marks : l.all.marks ≡ count_of (take l.steps-index l.traces) Mark;
  few_mallocs : l.all.mallocs ≤ l.steps-index * 2 ^ 64;
  few_frees : l.all.frees ≤ l.steps-index * 2 ^ 64;
  few_notes : l.all.notes ≤ l.steps-index * 2 ^ 64;
  few_marks : l.all.marks ≤ l.steps-index * 2 ^ 64;
}
