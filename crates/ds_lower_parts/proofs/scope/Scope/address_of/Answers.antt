use Rattle.std.proofs.Common.{◌≡◌, ◌<◌, length, sym, subst}
use Rattle.std.specs.Vec.{vec_len}
use Rattle.ds_lower_parts.proofs.Addresses.{address_inside, address_there, address_missing}
use Rattle.ds_lower_parts.proofs.scope.Scope.address_of.Goals as goal

pub index-requires : goal.index-requires
index-requires c =
    let len : vec_len c.self.inside.addresses ≡ length c.self.inside.addresses.items = search in
    subst (λ n. c.in-Some.number < n) (sym len)
    (address_inside c.self.inside.whole.now c.args.self.now c.self.inside.globals c.self.inside.addresses.items
    c.args.name.now c.place.result c.self.view_is c.self.invariant.global c.self.invariant.begin c.place.ensures.value
    c.in-Some.number c.in-Some.is)

pub returns-in-Some : goal.returns-in-Some
returns-in-Some c =
    address_there c.self.inside.whole.now c.args.self.now c.self.inside.globals c.self.inside.addresses.items
    c.args.name.now c.place.result c.self.view_is c.self.invariant.global c.self.invariant.begin c.place.ensures.value
    c.in-Some.number c.index.result.now c.in-Some.is c.index.ensures

pub returns-in-None : goal.returns-in-None
returns-in-None c =
    address_missing c.self.inside.whole.now c.args.self.now c.self.inside.globals c.self.inside.addresses.items
    c.args.name.now c.place.result c.self.view_is c.self.invariant.global c.self.invariant.begin c.place.ensures.value
    c.in-None.is
