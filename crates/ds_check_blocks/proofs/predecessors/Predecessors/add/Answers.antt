use Rattle.ds_check_blocks.proofs.Reversed.{edge_added, set_added}
use Rattle.ds_check_blocks.proofs.predecessors.Predecessors.add.Goals as goal

pub returns : goal.returns
returns c =
    edge_added (λ row. row.keys) c.self.inside.rows.items c.args.self.now c.args.from c.args.to c.index_mut.result.now
    c.insert.new.self c.self.view_is c.requires c.index_mut.ensures.value
    (set_added c.index_mut.result.now c.insert.new.self c.args.from c.in_ok-insert.ensures.updates.1
    c.in_ok-insert.ensures.updates.2)
