use Rattle.std.proofs.Common.{arith}
use Rattle.ds_frame.proofs.Arrived.{answered_comes}
use Rattle.ds_frame.proofs.thread.Thread.answer.Goals as goal

pub returns : goal.returns
returns c = λ rest serves.
    answered_comes c.args.code.now c.args.self.now c.resume.new.self c.args.value (omega arith)
    c.resume.ensures.paid c.resume.ensures.exact rest serves
