use Rattle.std.proofs.Common.{◌≡◌, length, refl, sym, ◌∙◌}
use Rattle.ds_names.specs.Places.{nows}
use Rattle.ds_names.proofs.Placed.{found_among, put_distinct, put_placed}
use Rattle.ds_names.proofs.names.Names.put.Goals as goal

pub returns-then-is_some-clause-there : goal.returns-then-is_some-clause-there
returns-then-is_some-clause-there c = λ f. (
  found_among (nows c.self.inside.names.items) c.args.self.now c.args.name.now c.get.result _ c.get.ensures
      (c.self.invariant.1 c.args.name.now) c.self.view_is
      (sym c.is_some.ensures ∙ c.if-is_some.true),
  refl,
)

pub invariant_of-self-in-Ok : goal.invariant_of-self-in-Ok
invariant_of-self-in-Ok c =
    let none = sym c.is_some.ensures ∙ c.if-is_some.false in let placed = c.self.invariant.1 c.args.name.now in
    let len : c.len-at.result ≡ length c.self.inside.names.items = search in (
      put_distinct c.self.inside.names.items c.push.new.self.items c.args.name c.get.result _
          c.in_ok-push.ensures.items c.get.ensures placed none c.self.invariant.0,
      λ q. put_placed c.self.inside.names.items c.push.new.self.items c.args.name c.get.result _
          c.in_ok-push.ensures.items c.get.ensures placed none q c.len-at.result _ _
          len (c.self.invariant.1 q) (c.in-Ok.ensures.ok q),
    )

pub returns-in-Ok-clause-each_once : goal.returns-in-Ok-clause-each_once
returns-in-Ok-clause-each_once c = (invariant_of-self-in-Ok c).0
