-- The frames wait for the part at which the solver is, and the work falls.
use Rattle.ml_parity.specs.private.SolverFrames.{HoldsAt, work_left}
use Rattle.ml_parity.proofs.zielonka.recursion.run.Given as goal

abbrev pub invariant-loop-frames : goal.invariant-loop-frames
invariant-loop-frames l = HoldsAt l.at l.game l.frames.items l.work l.winner

abbrev pub decreases-loop-frames : goal.decreases-loop-frames
decreases-loop-frames l = work_left l.frames.items l.at
