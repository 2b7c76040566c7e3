use Rattle.std.proofs.Common.{◌≡◌, ◌<◌, ◌≤◌, ◌+◌, length, slice_index_or, ap, ◌∙◌, subst, arith}
use Rattle.ds_shape.specs.Types.{instructions_of}
use Rattle.ds_main.proofs.Counts.{next_fits}
use Rattle.ds_main.proofs.accepted.all_instructions.Goals as goal

pub instruction_count-count-requires : goal.instruction_count-count-requires
instruction_count-count-requires c =
    let there : c.as_slice-f-items.result.now ≡ c.args.module.now.functions = c.as_slice-f-items.ensures in
    let fits : c.loop-f.count + length (instructions_of c.f-item.result) ≤ 200000 =
    next_fits instructions_of c.args.module.now.functions c.loop-f.f-index c.f-item.result c.loop-f.count 200000
    (subst (λ fs. c.loop-f.f-index < length fs) there c.loop-f-test.true)
    (c.f-item.is ∙ ap (λ fs. slice_index_or fs c.loop-f.f-index c.f-item.result) there) c.loop-f.invariant
    c.requires in
    omega (arith, fits)

pub overflow_add-count : goal.overflow_add-count
overflow_add-count c =
    let there : c.as_slice-f-items.result.now ≡ c.args.module.now.functions = c.as_slice-f-items.ensures in
    let fits : c.loop-f.count + length (instructions_of c.f-item.result) ≤ 200000 =
    next_fits instructions_of c.args.module.now.functions c.loop-f.f-index c.f-item.result c.loop-f.count 200000
    (subst (λ fs. c.loop-f.f-index < length fs) there c.loop-f-test.true)
    (c.f-item.is ∙ ap (λ fs. slice_index_or fs c.loop-f.f-index c.f-item.result) there) c.loop-f.invariant
    c.requires in
    omega (arith, fits, c.instruction_count-count.ensures)
