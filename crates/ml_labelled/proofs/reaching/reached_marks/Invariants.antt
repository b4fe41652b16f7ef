use Rattle.std.proofs.Common.{◌+◌, ◌*◌, length}
use Rattle.ml_labelled.specs.private.Reaching.{IsWalk, left}
use Rattle.ml_labelled.proofs.reaching.reached_marks.Given as goal

abbrev pub invariant-loop-p : goal.invariant-loop-p
invariant-loop-p l = IsWalk l.automaton l.marks.items l.waiting.items

abbrev pub decreases-loop-p : goal.decreases-loop-p
decreases-loop-p l = 2 * left l.marks.items + length l.waiting.items
