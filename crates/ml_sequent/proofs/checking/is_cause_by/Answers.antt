use Rattle.ml_sequent.proofs.checking.is_cause_by.Goals as goal

pub on_odd_cycle-requires-clause-node : goal.on_odd_cycle-requires-clause-node
on_odd_cycle-requires-clause-node c = c.requires.spread.low c.in-Cycle.node (c.contains.ensures.0 c.if-not-contains.false)
