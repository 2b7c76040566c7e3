use Rattle.std.proofs.Common.{ap, sym, ◌∙◌}
use Rattle.std.specs.Option.{option_map}
use Rattle.ds_main.specs.Job.{options_with}
use Rattle.ds_main.proofs.Words.{pair_more}
use Rattle.ds_main.proofs.job.options_in.Goals as goal

pub pairs-preserved : goal.pairs-preserved
pairs-preserved c =
    c.pairs.invariant ∙ pair_more c.pairs.options c.in_ok-options.options c.pairs.rest.now c.in-Some.behind.now
    c.in_ok-number.more.now c.in-Some.name.now c.in_ok-number.number.now c.as_bytes.result.now
    c.as_bytes-in-Some.result.now c.in-Some.ensures.cases.0 c.in_ok-number.ensures.cases.0 c.as_bytes.ensures.value
    c.as_bytes-in-Some.ensures.value (ap (option_map options_with) (sym c.in_ok-options.was) ∙ c.with_option.ensures)
