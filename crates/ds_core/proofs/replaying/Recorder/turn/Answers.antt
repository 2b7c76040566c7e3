use Rattle.std.proofs.Common.{arith, refl, ap, ◌∙◌}
use Rattle.ds_actor.specs.Actors.{step_in}
use Rattle.ds_core.proofs.Turned.{actor_here, goes_here, whole_here, turned, turned_nearer}
use Rattle.ds_core.proofs.replaying.Recorder.turn.Goals as goal

pub turn-made-requires-clause-goes_on : goal.turn-made-requires-clause-goes_on
turn-made-requires-clause-goes_on c =
    goes_here c.args.code.now c.args.limits.now _ _ _ _ _ _ _ c.requires.runs.2 c.next-thread.result
    c.from-place.result c.index_mut.result.now c.next-thread.ensures.may c.from-place.ensures c.index_mut.ensures.value

pub turn-made-requires-clause-row : goal.turn-made-requires-clause-row
turn-made-requires-clause-row c =
    let is = actor_here c.args.code.now c.args.limits.now _ _ _ _ _ _ _ c.requires.runs.2 c.next-thread.result
    c.from-place.result c.index_mut.result.now c.next-thread.ensures.may c.from-place.ensures c.index_mut.ensures.value in
    omega (arith, is.row)

pub turn-made-requires-clause-whole : goal.turn-made-requires-clause-whole
turn-made-requires-clause-whole c =
    whole_here c.args.code.now c.args.limits.now _ _ _ _ _ _ _ c.requires.runs.2 c.next-thread.result
    c.from-place.result c.index_mut.result.now c.next-thread.ensures.may c.from-place.ensures c.index_mut.ensures.value

pub returns-clause-runs : goal.returns-clause-runs
returns-clause-runs c = λ cues seed runs.
    turned c.one_step_more.ensures c.args.code.now c.args.limits.now cues seed c.args.self.now.table _
    c.args.self.now.actors.items _ c.args.self.now.traces _ c.args.self.now.order _ c.args.self.now.progress _
    c.index_mut.result.now c.turn-made.new.actor c.step-step.result c.next-thread.result c.from-place.result
    c.requires.rows c.next-thread.ensures.may c.from-place.ensures
    (record {
      goes_on = c.requires.goes_on;
      read = c.index_mut.ensures.value;
      stands = c.turn-made.ensures.stands;
      same = c.turn-made.ensures.same;
      step_is = c.step-step.ensures ∙ ap step_in c.turn-made.ensures.turn;
      words_are = c.turn-made.ensures.words;
      actors_are = refl;
      traces_are = c.in_ok-push.ensures.ok;
      order_is = c.in_ok-push-2.ensures.ok;
      next = c.next-thread.ensures.next;
      passed = c.passed.ensures;
    }) runs

pub returns-clause-nearer : goal.returns-clause-nearer
returns-clause-nearer c =
    turned_nearer c.one_step_more.ensures c.args.code.now c.args.limits.now c.requires.runs.0 c.requires.runs.1
    c.args.self.now.table _
    c.args.self.now.actors.items _ c.args.self.now.traces _ c.args.self.now.order _ c.args.self.now.progress _
    c.index_mut.result.now c.turn-made.new.actor c.step-step.result c.next-thread.result c.from-place.result
    c.requires.rows c.next-thread.ensures.may c.from-place.ensures
    (record {
      goes_on = c.requires.goes_on;
      read = c.index_mut.ensures.value;
      stands = c.turn-made.ensures.stands;
      same = c.turn-made.ensures.same;
      step_is = c.step-step.ensures ∙ ap step_in c.turn-made.ensures.turn;
      words_are = c.turn-made.ensures.words;
      actors_are = refl;
      traces_are = c.in_ok-push.ensures.ok;
      order_is = c.in_ok-push-2.ensures.ok;
      next = c.next-thread.ensures.next;
      passed = c.passed.ensures;
    }) c.requires.runs.2
