-- All from `reached` on is followed.
use Rattle.std.proofs.Common.{ℕ, ◌≤◌, []}
use Rattle.ml_parity.specs.declared.players.Player.{Player}
use Rattle.ml_parity.specs.private.Parts.{IsPart}
use Rattle.ml_parity.specs.private.SinkGame.{board_of}
use Rattle.ml_parity.specs.private.SolverSteps.{places, lefts, Attracts, IsLeft, IsWork, Keeps}
use Rattle.ml_parity.proofs.zielonka.attractor.attract.Given as goal

abbrev pub invariant-loop-rest : goal.invariant-loop-rest
invariant-loop-rest l = record {
  work : IsWork l.game l.work;
  low : l.rest ≤ l.seeded;
  reached : l.rest ≤ l.reached;
  within : l.reached ≤ l.whole;
  counts : IsLeft l.game (places l.work) l.reached (lefts l.work);
  kept : Keeps l.seeded l.initial.work l.work;
  attracts : (win : ℕ → Player) → IsPart (board_of l.game) (places l.initial.work) l.whole win
      → Attracts l.game l.work l.whole l.seeded l.rest l.reached l.player [];
}

abbrev pub decreases-loop-rest : goal.decreases-loop-rest
decreases-loop-rest l = l.reached
