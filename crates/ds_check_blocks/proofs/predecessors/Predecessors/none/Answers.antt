use Rattle.std.proofs.Common.{◌∙◌, ◌++◌, ◌∷◌, [], ap, map}
use Rattle.std.proofs.lemmas.List.{map-append, replicate_more}
use Rattle.ds_check_blocks.proofs.predecessors.Predecessors.none.Goals as goal

pub loop-block-preserved : goal.loop-block-preserved
loop-block-preserved c =
    ap (map (λ row. row.keys)) c.in_ok-push.ensures.items ∙ map-append (λ row. row.keys) c.loop-block.rows.items
    (c.new.result ∷ [])
    ∙ ap (λ keys. map (λ row. row.keys) c.loop-block.rows.items ++ keys ∷ []) c.new.ensures.empty
    ∙ ap (λ rows. rows ++ [] ∷ []) c.loop-block.invariant ∙ replicate_more c.loop-block.block []
