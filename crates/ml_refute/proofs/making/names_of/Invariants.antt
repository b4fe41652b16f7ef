use Rattle.ml_refute.specs.private.PutTogether.{IsMostBelow}
use Rattle.ml_refute.proofs.making.names_of.Given as goal

abbrev pub invariant-loop-v : goal.invariant-loop-v
invariant-loop-v l = IsMostBelow l.game.graph.now l.game.arena.now l.vertices.keys l.v-index l.most
