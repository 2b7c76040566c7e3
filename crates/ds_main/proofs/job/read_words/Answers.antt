use Rattle.std.proofs.Common.{◌≡◌, [], ◌∷◌, codes, ap, sym, ◌∙◌}
use Rattle.ds_main.specs.declared.job.Job.TheVariants.{Replay, Check, Instrument}
use Rattle.std.specs.Option.{option_map}
use Rattle.ds_main.specs.Job.{texts, setting_with}
use Rattle.ds_main.proofs.job.read_words.Goals as goal

pub returns-then-is_only_word-clause-usage : goal.returns-then-is_only_word-clause-usage
returns-then-is_only_word-clause-usage c =
    let words : texts c.args.words.now ≡ codes "check" ∷ [] = c.is_only_word.ensures.0 c.if-is_only_word.true in
    ((λ e. absurd (cc e)), (λ no. absurd (no Check words)))

pub returns-then-is_only_word-2-clause-usage : goal.returns-then-is_only_word-2-clause-usage
returns-then-is_only_word-2-clause-usage c =
    let words : texts c.args.words.now ≡ codes "instrument" ∷ [] =
    c.is_only_word-2.ensures.0 c.if-is_only_word-2.true in
    ((λ e. absurd (cc e)), (λ no. absurd (no Instrument words)))

pub returns-in-Some-clause-usage : goal.returns-in-Some-clause-usage
returns-in-Some-clause-usage c = (
  (λ e. absurd (cc e)),
  (λ no. absurd (no (Replay c.in-Some.setting.seed c.in-Some.setting.limits)
      (sym c.setting_in.ensures ∙ ap (option_map setting_with) c.in-Some.is))),
)
