use Rattle.std.proofs.Common.{◌<◌, length, slice_index_or, sym, ap, subst, ◌∙◌, arith}
use Rattle.ds_check_blocks.proofs.Branched.{block_inside, index_inside, instr_there}
use Rattle.ds_check_blocks.proofs.labels.instr_at.Goals as goal

pub bounds-as_slice-site : goal.bounds-as_slice-site
bounds-as_slice-site c =
    subst (λ bs. c.site-site.result.block < length bs) (sym c.as_slice.ensures)
    (block_inside c.args.sites.now c.args.function.now c.args.number c.site-site.result c.requires.same
    c.requires.inside c.site-site.ensures)

pub offset_bounds-as_slice-site : goal.offset_bounds-as_slice-site
offset_bounds-as_slice-site c =
    let inside = bounds-as_slice-site c in
    let few = c.as_slice.type_inv.1 in
    omega (arith, inside, few)

pub bounds-as_slice-site-2 : goal.bounds-as_slice-site-2
bounds-as_slice-site-2 c =
    subst (λ is. c.site-site.result.index < length is) (sym c.as_slice-2.ensures)
    (index_inside c.args.sites.now c.args.function.now c.args.number c.site-site.result c.requires.same
    c.requires.inside c.site-site.ensures c.index-as_slice-site.result
    (c.index-as_slice-site.is ∙ ap (λ bs. slice_index_or bs c.site-site.result.block c.index-as_slice-site.result)
    c.as_slice.ensures))

pub offset_bounds-as_slice-site-2 : goal.offset_bounds-as_slice-site-2
offset_bounds-as_slice-site-2 c =
    let inside = bounds-as_slice-site-2 c in
    let few = c.as_slice-2.type_inv.1 in
    omega (arith, inside, few)

pub returns : goal.returns
returns c =
    instr_there c.args.sites.now c.args.function.now c.args.number c.site-site.result c.requires.same c.requires.inside
    c.site-site.ensures c.index-as_slice-site.result c.index-as_slice-site-2.result
    (c.index-as_slice-site.is ∙ ap (λ bs. slice_index_or bs c.site-site.result.block c.index-as_slice-site.result)
    c.as_slice.ensures)
    (c.index-as_slice-site-2.is ∙ ap (λ is. slice_index_or is c.site-site.result.index c.index-as_slice-site-2.result)
    c.as_slice-2.ensures)
