use Rattle.std.proofs.Common.{◌≡◌, ◌+◌, ◌++◌, length, take, drop, ap, sym, ◌∙◌, arith}
use Rattle.ds_map.specs.Bounds.{Bounds}
use Rattle.ds_code.specs.Machine.{Running}
use Rattle.ds_code.specs.CodeMeaning.{step}
use Rattle.ds_frame.specs.declared.moved.Moved.TheVariants as moves
use Rattle.ds_frame.specs.Steps.{moved_by, next_of}
use Rattle.ds_frame.specs.Coming.{comes_from}
use Rattle.ds_frame.specs.Threads.{ThreadState, runs, at_standing}
use Rattle.ds_frame.proofs.Coming.{one_more, one_want, one_stuck, wanting, same_thread, row_kept}
use Rattle.ds_frame.proofs.thread.Thread.run.Goals as goal

pub loop-self-preserved-in-Goes : goal.loop-self-preserved-in-Goes
loop-self-preserved-in-Goes c =
    let old = c.args.self.now in
    let t = c.loop-self.self-inside in
    let r : Running = runs c.args.code.now old in
    let is_run = ap (λ (x : ThreadState). runs c.args.code.now x) c.self.view_is in
    let fuel : c.fuel-fuel.result ≡ old.lim.fuel =
    c.fuel-fuel.ensures.fuel ∙ ap (λ (x : ThreadState). x.lim.fuel) c.self.view_is in
    let lim : t.limits.fuel ≡ old.lim.fuel = ap (λ (x : Bounds). x.fuel) c.loop-self.invariant.limits in
    let moved : moved_by (step r t.frames) ≡ moves.Goes =
    sym (c.step.ensures.moved ∙ ap (λ (x : Running). moved_by (step x t.frames)) is_run) ∙ c.in-Goes.is in
    let next : c.step.new.self ≡ next_of t.frames (step r t.frames) =
    c.step.ensures.next ∙ ap (λ (x : Running). next_of t.frames (step x t.frames)) is_run in
    let row : length (take t.row.len (c.step.new.row ++ drop (length c.step.new.row) t.row.items)) ≡ old.row =
    row_kept t.row.len c.step.new.row _ (c.step.auto.row ∙ c.as_mut_slice.ensures.len)
    ∙ sym c.as_mut_slice.ensures.len ∙ ap length c.as_mut_slice.ensures.value ∙ c.loop-self.invariant.row in
    record {
      same = one_more r old.place t.units (t.units + 1) t.frames c.step.new.self (omega arith) (omega arith) moved next
          ∙ c.loop-self.invariant.same;
      limits = c.loop-self.invariant.limits;
      number = c.loop-self.invariant.number;
      place = c.loop-self.invariant.place;
      row = row;
      paid = omega arith;
    }

pub loop-self-preserved : goal.loop-self-preserved
loop-self-preserved c =
    let old = c.args.self.now in
    let t = c.loop-self.self-inside in
    let r : Running = runs c.args.code.now old in
    let is_run = ap (λ (x : ThreadState). runs c.args.code.now x) c.self.view_is in
    let fuel : c.fuel-fuel.result ≡ old.lim.fuel =
    c.fuel-fuel.ensures.fuel ∙ ap (λ (x : ThreadState). x.lim.fuel) c.self.view_is in
    let lim : t.limits.fuel ≡ old.lim.fuel = ap (λ (x : Bounds). x.fuel) c.loop-self.invariant.limits in
    let moved : moved_by (step r t.frames) ≡ moves.Stuck =
    sym (c.step.ensures.moved ∙ ap (λ (x : Running). moved_by (step x t.frames)) is_run) ∙ c.in-Stuck.is in
    let next : c.step.new.self ≡ next_of t.frames (step r t.frames) =
    c.step.ensures.next ∙ ap (λ (x : Running). next_of t.frames (step x t.frames)) is_run in
    let row : length (take t.row.len (c.step.new.row ++ drop (length c.step.new.row) t.row.items)) ≡ old.row =
    row_kept t.row.len c.step.new.row _ (c.step.auto.row ∙ c.as_mut_slice.ensures.len)
    ∙ sym c.as_mut_slice.ensures.len ∙ ap length c.as_mut_slice.ensures.value ∙ c.loop-self.invariant.row in
    record {
      same = ap (λ n. comes_from r old.place n c.step.new.self) fuel
          ∙ one_stuck r old.place t.units t.frames c.step.new.self (omega arith) moved next
          ∙ c.loop-self.invariant.same;
      limits = c.loop-self.invariant.limits;
      number = c.loop-self.invariant.number;
      place = c.loop-self.invariant.place;
      row = row;
      paid = omega arith;
    }

pub returns-in-Asks : goal.returns-in-Asks
returns-in-Asks c =
    let old = c.args.self.now in
    let t = c.loop-self.self-inside in
    let r : Running = runs c.args.code.now old in
    let is_run = ap (λ (x : ThreadState). runs c.args.code.now x) c.self.view_is in
    let fuel : c.fuel-fuel.result ≡ old.lim.fuel =
    c.fuel-fuel.ensures.fuel ∙ ap (λ (x : ThreadState). x.lim.fuel) c.self.view_is in
    let moved : moved_by (step r t.frames) ≡ moves.Asks c.in-Asks.place c.in-Asks.request =
    sym (c.step.ensures.moved ∙ ap (λ (x : Running). moved_by (step x t.frames)) is_run) ∙ c.in-Asks.is in
    let next : c.step.new.self ≡ next_of t.frames (step r t.frames) =
    c.step.ensures.next ∙ ap (λ (x : Running). next_of t.frames (step x t.frames)) is_run in
    let row : length (take t.row.len (c.step.new.row ++ drop (length c.step.new.row) t.row.items)) ≡ old.row =
    row_kept t.row.len c.step.new.row _ (c.step.auto.row ∙ c.as_mut_slice.ensures.len)
    ∙ sym c.as_mut_slice.ensures.len ∙ ap length c.as_mut_slice.ensures.value ∙ c.loop-self.invariant.row in
    let there : wanting c.in-Asks.place c.in-Asks.request (t.units + 1) c.step.new.self
    ≡ comes_from r old.place old.units old.machine =
    one_want r old.place t.units (t.units + 1) t.frames c.step.new.self c.in-Asks.place c.in-Asks.request
    (omega arith) (omega arith) moved next
    ∙ c.loop-self.invariant.same in
    same_thread old t.limits t.number _ _ c.loop-self.invariant.limits c.loop-self.invariant.number row
    ∙ ap (at_standing old) there
