use Rattle.std.proofs.Common.{◌≡◌, ◌+◌, ◌%◌, ◌^◌, drop, List, [], sym, ap, ◌∙◌, mod-eq_of_lt, add-zero}
use Rattle.std.proofs.Math.ListN.{drop_of_length-le}
use Rattle.ds_code.specs.declared.ops.Stride.{Stride}
use Rattle.ds_code.specs.CodeMeaning.{bytes_added}
use Rattle.ds_frame.proofs.frames.Frames.address.Goals as goal

pub returns : goal.returns
returns c =
    let strides = c.args.strides.now in
    let none : drop c.loop-stride.stride-index strides ≡ [] = drop_of_length-le strides c.loop-stride-test.false in
    let small = c.loop-stride.invariant.small in
    let same : (c.loop-stride.address + 0) % 2 ^ 64 ≡ c.loop-stride.address =
    ap (λ n. n % 2 ^ 64) (add-zero c.loop-stride.address) ∙ mod-eq_of_lt small in
    sym same
    ∙ ap (λ (ss : List Stride). (c.loop-stride.address + bytes_added c.args.self.now ss) % 2 ^ 64) (sym none)
    ∙ c.loop-stride.invariant.same
