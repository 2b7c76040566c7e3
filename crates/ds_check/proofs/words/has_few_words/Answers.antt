use Rattle.std.proofs.Common.{◌≡◌, ◌<◌, ◌/◌, List, sym, subst, arith}
use Rattle.ds_ast.specs.declared.module.StructDef.{StructDef}
use Rattle.ds_shape.specs.Sizes.{Extent, HasExtent, rounded}
use Rattle.ds_shape.specs.Fits.{Fits}
use Rattle.ds_check.proofs.GlobalSizes.{fits_at, counted_more, too_many, few_enough}
use Rattle.ds_check.proofs.words.has_few_words.Goals as goal

pub words_of-requires : goal.words_of-requires
words_of-requires c =
    subst (λ (ss : List StructDef). Fits ss c.g-item.result.ty) (sym c.requires.shapes)
    (fits_at c.args.module.now c.extents_are_unique.ensures c.written_types_fit.ensures c.requires.layout
    c.as_slice-g-items.result.now c.as_slice-g-items.ensures
    c.loop-g.g-index c.g-item.result c.loop-g-test.true c.g-item.is)

pub returns-in-None : goal.returns-in-None
returns-in-None c =
    let less : c.loop-g.rest < c.words_of.result = grind (arith, c.in-None.ensures) in
    too_many c.args.module.now c.extents_are_unique.ensures c.written_types_fit.ensures c.requires.layout
    c.as_slice-g-items.result.now c.as_slice-g-items.ensures
    c.args.limit c.loop-g.rest c.words_of.result c.loop-g.g-index c.g-item.result c.loop-g-test.true c.g-item.is
    c.loop-g.invariant
    (subst (λ (ss : List StructDef). (e : Extent) → HasExtent ss c.g-item.result.ty e
    → c.words_of.result ≡ rounded e.size 8 / 8) c.requires.shapes c.words_of.ensures) less

pub loop-g-preserved : goal.loop-g-preserved
loop-g-preserved c =
    counted_more c.args.module.now c.extents_are_unique.ensures c.written_types_fit.ensures c.requires.layout
    c.as_slice-g-items.result.now c.as_slice-g-items.ensures
    c.args.limit c.loop-g.rest c.in-Some.fewer c.words_of.result c.loop-g.g-index c.g-item.result c.loop-g-test.true
    c.g-item.is c.loop-g.invariant
    (subst (λ (ss : List StructDef). (e : Extent) → HasExtent ss c.g-item.result.ty e
    → c.words_of.result ≡ rounded e.size 8 / 8) c.requires.shapes c.words_of.ensures)
    c.in-Some.ensures.0 c.in-Some.ensures.1

pub returns : goal.returns
returns c =
    few_enough c.args.module.now c.extents_are_unique.ensures c.written_types_fit.ensures c.requires.layout
    c.as_slice-g-items.result.now c.as_slice-g-items.ensures
    c.args.limit c.loop-g.rest c.loop-g.g-index c.loop-g-test.false c.loop-g.invariant
