use Rattle.std.proofs.Common.{vec_len, ◌-◌, ◌≤◌}
use Rattle.ds_io.specs.Source.{Gives}
use Rattle.ds_io.proofs.whole.read_pieces.Given as goal

-- the items are what the source gave so far
abbrev pub invariant-pieces : goal.invariant-pieces
invariant-pieces g l =
    let source = g.S.Source in
    record {
      within : vec_len l.items ≤ l.limit;
      given : Gives (source.left l.fn.source) l.items.items (source.left l.source);
      never_falls : source.faults l.fn.source ≤ source.faults l.source;
    }

abbrev pub decreases-pieces : goal.decreases-pieces
decreases-pieces g l = l.limit - vec_len l.items
