use Rattle.ds_log_laws.proofs.Moments.{logs_tell}
use Rattle.ds_log_laws.proofs.notes_are_logged.Goals as goal

pub returns : goal.returns
returns c = λ program lim stops traces range known h takes legal.
    logs_tell program lim stops traces range known h takes legal
    (c.legal_runs_are_plain.ensures program lim stops traces range known h takes legal)
