use Rattle.std.proofs.Common.{arith}
use Rattle.ds_shape.specs.Breaches.{kept_all}
use Rattle.ds_lower.proofs.Longest.{EdgeFits, edge_more}
use Rattle.ds_lower.proofs.rows.row_of_edges.Goals as goal

pub loop-edge-preserved : goal.loop-edge-preserved
loop-edge-preserved c =
    let max = c.max-row.ensures in
    let long = c.len.ensures in
    record {
      fits = edge_more c.args.edges.now c.loop-edge.edge-index c.edge-item.result c.loop-edge.row c.max-row.result
          c.loop-edge-test.true c.edge-item.is (omega arith) (omega arith) c.loop-edge.invariant.fits;
      least = let le = c.loop-edge.invariant.least in omega arith;
    }

pub returns-clause-fits : goal.returns-clause-fits
returns-clause-fits c =
    kept_all (EdgeFits c.loop-edge.row) c.args.edges.now c.loop-edge.edge-index c.loop-edge-test.false
    c.loop-edge.invariant.fits
