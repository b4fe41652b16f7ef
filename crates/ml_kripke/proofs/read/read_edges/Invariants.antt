use Rattle.std.proofs.Common.{length}
use Rattle.ml_kripke.proofs.BodyReads.{AreEdgesTo}
use Rattle.ml_kripke.proofs.read.read_edges.Given as goal

abbrev pub invariant-loop-words : goal.invariant-loop-words
invariant-loop-words l = AreEdgesTo l.states l.fn.text l.edges.items l.rest

abbrev pub decreases-loop-words : goal.decreases-loop-words
decreases-loop-words l = length l.rest
