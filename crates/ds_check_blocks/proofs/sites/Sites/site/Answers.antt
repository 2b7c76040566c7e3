use Rattle.std.proofs.Common.{◌≡◌, ◌<◌, length, slice_index_or, ◌∙◌, sym, ap, subst}
use Rattle.std.specs.Prelude.{vec_len}
use Rattle.ds_ast.specs.declared.module.Function.{Function}
use Rattle.ds_shape.specs.Placed.{placed_of}
use Rattle.ds_check_blocks.specs.Sites.{IsSite}
use Rattle.ds_check_blocks.proofs.Along.{many_sites, site_of}
use Rattle.ds_check_blocks.proofs.sites.Sites.site.Goals as goal

-- src/sites.rt:83:9
pub index-requires : goal.index-requires
index-requires c =
    let many : vec_len c.self.inside.sites ≡ length c.self.inside.sites.items = search in
    let view : c.args.self.now ≡ c.self.inside.function.now = search in
    subst (λ n. c.args.number < n)
    (ap (λ (f : Function). length (placed_of f)) view
    ∙ sym (many ∙ many_sites c.self.inside.function.now c.self.inside.sites.items c.self.invariant)) c.requires

-- src/sites.rt:79:5
pub returns : goal.returns
returns c = λ p.
    let view : c.args.self.now ≡ c.self.inside.function.now = search in
    let at : c.index.result.now ≡ slice_index_or c.self.inside.sites.items c.args.number c.index.result.now = search in
    subst (λ (f : Function). IsSite f c.args.number c.index.result.now (slice_index_or (placed_of f) c.args.number p))
    (sym view)
    (site_of c.self.inside.function.now c.self.inside.sites.items c.args.number c.index.result.now p c.self.invariant
    (subst (λ (f : Function). c.args.number < length (placed_of f)) view c.requires) at)
