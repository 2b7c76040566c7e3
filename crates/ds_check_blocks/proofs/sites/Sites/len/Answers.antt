use Rattle.std.proofs.Common.{◌≡◌, length, ◌∙◌, sym, ap}
use Rattle.ds_shape.specs.Placed.{placed_of}
use Rattle.ds_check_blocks.proofs.Along.{many_sites}
use Rattle.ds_check_blocks.proofs.sites.Sites.len.Goals as goal

-- src/sites.rt:72:5
pub returns : goal.returns
returns c =
    let len : c.len.result ≡ length c.self.inside.sites.items = search in
    let view : c.args.self.now ≡ c.self.inside.function.now = search in
    len ∙ many_sites c.self.inside.function.now c.self.inside.sites.items c.self.invariant
    ∙ ap (λ f. length (placed_of f)) (sym view)
