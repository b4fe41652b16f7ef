use Rattle.ml_sequent.proofs.checking.has_pair.Goals as goal

pub is_pair-requires-clause-positive : goal.is_pair-requires-clause-positive
is_pair-requires-clause-positive c = c.requires.low c.args.positive (c.contains.ensures.0 c.if-not-contains.false)

pub is_pair-requires-clause-negative : goal.is_pair-requires-clause-negative
is_pair-requires-clause-negative c = c.requires.low c.args.negative (c.contains-else-not-contains.ensures.0 c.if-not-contains-2.false)
