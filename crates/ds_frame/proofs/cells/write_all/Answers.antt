use Rattle.std.proofs.Common.{◌≡◌, drop, List, [], sym, ap, ◌∙◌}
use Rattle.std.proofs.Math.ListN.{drop_of_length-le}
use Rattle.ds_code.specs.declared.sources.Copying.{Copying}
use Rattle.ds_code.specs.Machine.{all_written}
use Rattle.ds_frame.proofs.Copied.{written_front}
use Rattle.ds_frame.proofs.cells.write_all.Goals as goal

pub returns : goal.returns
returns c =
    let base = c.args.base in
    let copies = c.args.copies.now in
    let values = c.args.values.now in
    let none : drop c.loop-n.n copies ≡ [] = drop_of_length-le copies c.loop-n-test.false in
    let all : c.loop-n.cells ≡ all_written base copies values c.args.cells.now =
    sym (ap (λ (cs : List Copying). all_written base cs (drop c.loop-n.n values) c.loop-n.cells) none)
    ∙ c.loop-n.invariant in
    all ∙ sym (written_front base copies values c.args.cells.now)
