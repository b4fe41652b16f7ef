use Rattle.std.proofs.Common.{length}
use Rattle.ml_answers.proofs.DocumentRead.{InConflicts}
use Rattle.ml_answers.proofs.document.read_conflicts.Given as goal

abbrev pub invariant-loop-statement : goal.invariant-loop-statement
invariant-loop-statement l = InConflicts l.items l.fn.at l.stated.items l.rest l.question l.among.items

abbrev pub decreases-loop-statement : goal.decreases-loop-statement
decreases-loop-statement l = length l.rest.text.now
