use Rattle.ds_log_laws.proofs.Runs.{drawn}
use Rattle.ds_log_laws.proofs.full_logs_are_drawn.Goals as goal

pub returns : goal.returns
returns c = λ program lim stops traces range known h takes legal t place lt is.
    drawn program lim stops traces range known h takes legal
    (c.legal_runs_are_plain.ensures program lim stops traces range known h takes legal) t place lt is
