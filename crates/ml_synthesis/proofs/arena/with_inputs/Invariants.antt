use Rattle.ml_synthesis.specs.private.Arena.{AreSets}
use Rattle.ml_synthesis.proofs.arena.with_inputs.Given as goal

abbrev pub invariant-loop-ins : goal.invariant-loop-ins
invariant-loop-ins l = AreSets l.sets l.state l.ins l.vertices.items
