use Rattle.std.proofs.Common.{◌∙◌, inl, inr}
use Rattle.ds_main.proofs.Endings.{delivers_text, stopped}
use Rattle.ds_main.proofs.check.check.Goals as goal

pub returns-in-Err : goal.returns-in-Err
returns-in-Err g c = inl (stopped _ _ _ c.in-Err.why c.in-Err.ensures.none c.stop.ensures)

pub returns-in-Ok-accepted_line : goal.returns-in-Ok-accepted_line
returns-in-Ok-accepted_line g c =
    inr (
      c.in-Ok.module,
      c.in-Ok.ensures.found,
      record {
        no_stops = c.empty.ensures.stops;
        no_traces = c.empty.ensures.traces;
        no_order = c.empty.ensures.order;
      },
      delivers_text _ _ _ _ _ (c.as_slice.ensures.value ∙ c.in-Ok-accepted_line.ensures) c.deliver.ensures,
    )
