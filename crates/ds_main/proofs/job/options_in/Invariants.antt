use Rattle.std.proofs.Common.{◌≡◌, length}
use Rattle.ds_main.specs.Job.{texts, no_options, options_from, options_with}
use Rattle.ds_main.proofs.job.options_in.Given as goal

-- what all words give is what the rest gives with the options so far
abbrev pub invariant-pairs : goal.invariant-pairs
invariant-pairs l =
    options_from no_options (texts l.fn.words) ≡ options_from (options_with l.options) (texts l.rest)

abbrev pub decreases-pairs : goal.decreases-pairs
decreases-pairs l = length l.rest
