use Rattle.std.proofs.Common.{refl}
use Rattle.ds_print.proofs.Found.{kept_new, kept_there}
use Rattle.ds_print.proofs.lines.keep.Goals as goal

pub returns-in_ok-push : goal.returns-in_ok-push
returns-in_ok-push c =
    kept_new c.args.line.now c.args.names.now c.put.new.self c.args.fields.now.items c.push.new.self.items
    c.as_slice.result (c.in_ok-put.ensures.new c.if-branch.true).1 c.in_ok-push.ensures.items c.as_slice.ensures

pub returns-else-branch : goal.returns-else-branch
returns-else-branch c =
    let there = c.in_ok-put.ensures.there c.if-branch.false in
    kept_there c.args.line.now c.args.names.now c.put.new.self c.args.fields.now.items c.args.fields.now.items
    there.0 there.1 refl
