use Rattle.std.proofs.Common.{◌≡◌, ◌≤◌, take}
use Rattle.ds_report.specs.Counts.{count_in}
use Rattle.ds_report.specs.declared.counts.Tally.TheVariants.{Malloc, Free, Note, Mark}
use Rattle.ds_report.proofs.counts.counts_in.Given as goal

-- the steps so far were counted
abbrev pub invariant-loop-step : goal.invariant-loop-step
invariant-loop-step l = record {
  mallocs : l.mallocs ≡ count_in Malloc (take l.step-index l.steps);
  frees : l.frees ≡ count_in Free (take l.step-index l.steps);
  notes : l.notes ≡ count_in Note (take l.step-index l.steps);
  marks : l.marks ≡ count_in Mark (take l.step-index l.steps);
  few_mallocs : l.mallocs ≤ l.step-index;
  few_frees : l.frees ≤ l.step-index;
  few_notes : l.notes ≤ l.step-index;
  few_marks : l.marks ≤ l.step-index;
}
