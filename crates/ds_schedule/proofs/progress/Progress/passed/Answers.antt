use Rattle.std.proofs.Common.{◌∙◌, sym, set, true}
use Rattle.ds_plain.specs.Turns.{passing_of}
use Rattle.ds_schedule.proofs.Behind.{stands_inside, ended_then, ended_else, given_by_end, given_by_more, given_else}
use Rattle.ds_schedule.proofs.progress.Progress.passed.Goals as goal

pub returns-then-is_end : goal.returns-then-is_end
returns-then-is_end c =
    let i = c.self.inside in
    stands_inside c.args.self.now
    (record { cues = i.cues.now; drawn = i.drawn; given = i.given; ended = i.ended })
    (record {
      cues = c.cues_behind-self-inside.result.now;
      drawn = c.drawn_behind-self-inside.result;
      given = i.given;
      ended = set i.ended c.args.thread true;
    })
    c.args.thread c.args.step.now c.standing-cues.result.now c.self.view_is c.standing-cues.ensures
    c.cues_behind-self-inside.ensures c.drawn_behind-self-inside.ensures
    (given_by_end (passing_of c.args.step.now.event) i.given (sym c.is_end.ensures ∙ c.if-is_end.true))
    (λ u. ended_then (passing_of c.args.step.now.event) i.ended c.args.thread u
    (sym c.is_end.ensures ∙ c.if-is_end.true))

pub returns-then-is_given : goal.returns-then-is_given
returns-then-is_given c =
    let i = c.self.inside in
    stands_inside c.args.self.now
    (record { cues = i.cues.now; drawn = i.drawn; given = i.given; ended = i.ended })
    (record {
      cues = c.cues_behind-self-inside.result.now;
      drawn = c.drawn_behind-self-inside.result;
      given = c.one_more-self-inside.result;
      ended = i.ended;
    })
    c.args.thread c.args.step.now c.standing-cues.result.now c.self.view_is c.standing-cues.ensures
    c.cues_behind-self-inside.ensures c.drawn_behind-self-inside.ensures
    (c.one_more-self-inside.ensures
    ∙ given_by_more (passing_of c.args.step.now.event) i.given (sym c.is_given.ensures ∙ c.if-is_given.true))
    (λ u. ended_else (passing_of c.args.step.now.event) i.ended c.args.thread u
    (sym c.is_end.ensures ∙ c.if-is_end.false))

pub returns-else-is_given : goal.returns-else-is_given
returns-else-is_given c =
    let i = c.self.inside in
    stands_inside c.args.self.now
    (record { cues = i.cues.now; drawn = i.drawn; given = i.given; ended = i.ended })
    (record {
      cues = c.cues_behind-self-inside.result.now;
      drawn = c.drawn_behind-self-inside.result;
      given = i.given;
      ended = i.ended;
    })
    c.args.thread c.args.step.now c.standing-cues.result.now c.self.view_is c.standing-cues.ensures
    c.cues_behind-self-inside.ensures c.drawn_behind-self-inside.ensures
    (given_else (passing_of c.args.step.now.event) i.given (sym c.is_end.ensures ∙ c.if-is_end.false)
    (sym c.is_given.ensures ∙ c.if-is_given.false))
    (λ u. ended_else (passing_of c.args.step.now.event) i.ended c.args.thread u
    (sym c.is_end.ensures ∙ c.if-is_end.false))
