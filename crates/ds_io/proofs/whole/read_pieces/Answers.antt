use Rattle.std.proofs.Common.{◌≡◌, ℕ, ◌+◌, ◌≤◌, length, take, arith}
use Rattle.std.proofs.lemmas.List.{length-take}
use Rattle.ds_io.proofs.Giving.{HadMore-append, TookAtMost-append}
use Rattle.ds_io.proofs.whole.read_pieces.Goals as goal

pub returns-then-count-room-clause-too_long : goal.returns-then-count-room-clause-too_long
returns-then-count-room-clause-too_long g c =
    let left = g.S.Source.left in
    let items = c.pieces.items.items in
    let piece = take c.in_ok-count.count c.read.new.buf in
    let more : length items + length piece ≡ c.args.limit + 1 =
    omega (arith, c.in_ok-count.ensures.bound, length-take {A = ℕ}) in
    λ _. HadMore-append c.args.limit (left c.args.source.now) (left c.pieces.source)
    (left c.read.new.self) items piece c.pieces.invariant.given c.in_ok-count.ensures.gives more

pub returns-then-count-room-clause-taken : goal.returns-then-count-room-clause-taken
returns-then-count-room-clause-taken g c =
    let left = g.S.Source.left in
    let items = c.pieces.items.items in
    let piece = take c.in_ok-count.count c.read.new.buf in
    let few : length items + length piece ≤ c.args.limit + 1 =
    omega (arith, c.in_ok-count.ensures.bound, length-take {A = ℕ}) in
    TookAtMost-append (c.args.limit + 1) (left c.args.source.now) (left c.pieces.source)
    (left c.read.new.self) items piece c.pieces.invariant.given c.in_ok-count.ensures.gives few

pub returns-in_err-extend_from_slice-clause-taken : goal.returns-in_err-extend_from_slice-clause-taken
returns-in_err-extend_from_slice-clause-taken g c =
    let left = g.S.Source.left in
    let items = c.pieces.items.items in
    let piece = take c.in_ok-count.count c.read.new.buf in
    let few : length items + length piece ≤ c.args.limit + 1 =
    omega (arith, c.in_ok-count.ensures.bound, length-take {A = ℕ}) in
    TookAtMost-append (c.args.limit + 1) (left c.args.source.now) (left c.pieces.source)
    (left c.read.new.self) items piece c.pieces.invariant.given c.in_ok-count.ensures.gives few
