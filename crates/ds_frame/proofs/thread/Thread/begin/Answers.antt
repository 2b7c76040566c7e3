use Rattle.ds_frame.proofs.Arrived.{begun_comes}
use Rattle.ds_frame.proofs.thread.Thread.begin.Goals as goal

pub returns : goal.returns
returns c =
    begun_comes c.args.code.now c.args.self.now c.enter.new.self c.args.function c.args.arg c.enter.ensures.paid
    c.enter.ensures.exact
