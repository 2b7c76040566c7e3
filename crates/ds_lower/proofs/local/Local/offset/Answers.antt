use Rattle.std.proofs.Common.{◌≡◌, ◌<◌, length, sym, subst}
use Rattle.std.specs.Vec.{vec_len}
use Rattle.ds_lower.proofs.Blocks.{offset_in, offset_inside}
use Rattle.ds_lower.proofs.local.Local.offset.Goals as goal

pub index-requires : goal.index-requires
index-requires c =
    let len : vec_len c.self.inside.offsets ≡ length c.self.inside.offsets.items = search in
    subst (λ n. c.args.number < n) (sym len)
    (offset_inside c.self.inside.function.now c.args.self.now c.self.inside.offsets.items c.args.number c.self.view_is
    c.self.invariant.begin c.requires)

pub returns : goal.returns
returns c =
    offset_in c.self.inside.function.now c.args.self.now c.self.inside.offsets.items c.args.number c.index.result.now
    c.self.view_is c.self.invariant.begin c.requires c.index.ensures
