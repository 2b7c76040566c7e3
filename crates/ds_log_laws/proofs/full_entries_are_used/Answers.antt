use Rattle.ds_log_laws.proofs.Runs.{used}
use Rattle.ds_log_laws.proofs.full_entries_are_used.Goals as goal

pub returns : goal.returns
returns c = λ program lim stops traces range known h takes legal t place lt is.
    used program lim stops traces range known h takes legal
    (c.legal_runs_are_plain.ensures program lim stops traces range known h takes legal) t place lt is
