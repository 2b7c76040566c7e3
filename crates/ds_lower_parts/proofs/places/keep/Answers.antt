use Rattle.std.proofs.Common.{refl}
use Rattle.ds_lower_parts.proofs.Beside.{kept_new, kept_there}
use Rattle.ds_lower_parts.proofs.places.keep.Goals as goal

pub returns-in_ok-push : goal.returns-in_ok-push
returns-in_ok-push c =
    kept_new c.args.name.now c.args.kept.now c.put.new.self c.args.firsts.now.items c.push.new.self.items c.args.at
    (c.in_ok-put.ensures.new c.if-branch.true).1 c.in_ok-push.ensures.items

pub returns-else-branch : goal.returns-else-branch
returns-else-branch c =
    let there = c.in_ok-put.ensures.there c.if-branch.false in
    kept_there c.args.name.now c.args.kept.now c.put.new.self c.args.firsts.now.items c.args.firsts.now.items c.args.at
    there.0 there.1 refl
