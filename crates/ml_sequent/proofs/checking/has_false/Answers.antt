use Rattle.ml_sequent.proofs.checking.has_false.Goals as goal

pub node-requires : goal.node-requires
node-requires c = c.requires.low c.args.node (c.contains.ensures.0 c.if-not-contains.false)
