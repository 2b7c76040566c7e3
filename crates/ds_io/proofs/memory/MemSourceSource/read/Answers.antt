use Rattle.std.proofs.Common.{◌≡◌, ◌+◌, ◌++◌, take, drop, ap}
use Rattle.std.proofs.lemmas.List.{take-append-drop, drop-drop, take_rest}
use Rattle.ds_io.specs.Memory.{SourceState}
use Rattle.ds_io.proofs.memory.MemSourceSource.read.Goals as goal

-- the bytes to come are those that were copied and those after them
pub returns-clause-gives : goal.returns-clause-gives
returns-clause-gives c =
    let n = c.copy_front-count.result in
    let given = c.self.inside.given in
    let items = c.self.inside.bytes.items in
    let left : drop given items ≡ c.args.self.now.left = ap (λ (s : SourceState). s.left) c.self.view_is in
    let copied : take n c.copy_front-count.new.buf ≡ take n (drop given c.deref.result.now) =
    rw take_rest at c.copy_front-count.ensures.copied in
    let same : c.deref.result.now ≡ items = c.deref.ensures.value in
    let whole : take n (drop given items) ++ drop n (drop given items) ≡ drop given items =
    take-append-drop n (drop given items) in
    let after : drop n (drop given items) ≡ drop (given + n) items = drop-drop n given items in
    cc
