use Rattle.std.proofs.Common.{refl, subst}
use Rattle.ds_main.specs.declared.job.Job.TheVariants as jobs
use Rattle.ds_main.specs.Job.{texts, IsJob}
use Rattle.ds_main.specs.Text.{accepted_text, instrumented_text}
use Rattle.ds_main.proofs.Endings.{only_usage, usage_ends, replay_ends, answer_ends}
use Rattle.ds_main.proofs.entry.answer.Goals as goal

pub returns-in-Replay : goal.returns-in-Replay
returns-in-Replay g c =
    replay_ends _ c.in-Replay.seed c.in-Replay.limits (subst (IsJob (texts c.args.words.now)) c.in-Replay.is c.in-Ok.ensures.job)
    c.replay.ensures

pub returns-in-Check : goal.returns-in-Check
returns-in-Check g c =
    answer_ends _ jobs.Check accepted_text (λ m. refl)
    (subst (IsJob (texts c.args.words.now)) c.in-Check.is c.in-Ok.ensures.job) c.check.ensures

pub returns-in-Instrument : goal.returns-in-Instrument
returns-in-Instrument g c =
    answer_ends _ jobs.Instrument instrumented_text (λ m. refl)
    (subst (IsJob (texts c.args.words.now)) c.in-Instrument.is c.in-Ok.ensures.job) c.instrument.ensures

pub returns-in-Err : goal.returns-in-Err
returns-in-Err g c = usage_ends _ (c.in-Err.ensures.usage.0 (only_usage c.in-Err.field-0)) c.refuse.ensures
