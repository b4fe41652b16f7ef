use Rattle.std.proofs.Common.{sym, ◌∙◌}
use Rattle.ml_labelled.proofs.MergedStates.{edges_same}
use Rattle.ml_labelled.proofs.merging.is_same.Goals as goal

pub returns : goal.returns
returns c = λ same.
    edges_same c.args.edge.now c.args.other.now c.if-edge-other.false c.if-edge-other-2.false (sym c.eq.ensures ∙ same)
