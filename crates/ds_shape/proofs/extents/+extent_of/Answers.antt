use Rattle.std.proofs.Common.{◌≡◌, ◌*◌, ◌∙◌, ℕ, sym, ap}
use Rattle.ds_shape.specs.Capped.{capped, capped_extent, extent_in}
use Rattle.ds_shape.specs.declared.extents.CappedExtent.{CappedExtent}
use Rattle.ds_shape.proofs.Arrays.{extent_of_array}
use Rattle.ds_shape.proofs.extents.+extent_of.Goals as goal

pub returns-in-Array-clause-value : goal.returns-in-Array-clause-value
returns-in-Array-clause-value t c =
    let h = extent_in c.args.names.now c.args.extents.now in
    let of : c.extent_of-of.result ≡ capped_extent h c.in-Array.of = c.extent_of-of.ensures.value
    ∙ ap (capped_extent h) c.get.ensures in
    ap (λ (n : ℕ). record { size = n; align = c.extent_of-of.result.align }) c.repeat.ensures
    ∙ ap (λ (e : CappedExtent). record { size = capped (c.in-Array.count * e.size); align = e.align }) of
    ∙ sym (extent_of_array h c.in-Array.count c.in-Array.of) ∙ ap (capped_extent h) (sym c.in-Array.is)
