-- Below the vertex the choices are filled up.
use Rattle.ml_parity.specs.private.SinkGame.{FilledBelow}
use Rattle.ml_parity.proofs.fill.with_first_moves.Given as goal

abbrev pub invariant-loop-vertex : goal.invariant-loop-vertex
invariant-loop-vertex l = FilledBelow l.game l.winner l.initial.filled.items l.filled.items l.vertex
