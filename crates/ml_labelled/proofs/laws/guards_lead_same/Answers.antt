use Rattle.ml_labelled.proofs.GuardedEdges as guarded
use Rattle.ml_labelled.proofs.laws.guards_lead_same.Goals as goal

pub returns : goal.returns
returns c = guarded.guards_lead_same
