use Rattle.ml_word_check.proofs.EdgesGathered.{edge_more}
use Rattle.ml_word_check.proofs.steps.steps_of.Goals as goal

pub loop-i-preserved : goal.loop-i-preserved
loop-i-preserved c =
    edge_more c.args.structure.now c.states-states.ensures.is_structure c.loop-i.i c.edge_at.result.now c.loop-i.rows.items
    c.add.new.rows.items c.edge_at.ensures c.loop-i.invariant c.add.ensures
