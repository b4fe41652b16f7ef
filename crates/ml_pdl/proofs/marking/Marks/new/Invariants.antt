-- What is known behind the byte so far.
use Rattle.ml_pdl.proofs.MarkBytes.{Known}
use Rattle.ml_pdl.proofs.marking.Marks.new.Given as goal

abbrev pub invariant-loop-at : goal.invariant-loop-at
invariant-loop-at l = Known l.at l.flags.items l.tests.items l.asks l.text

abbrev pub decreases-loop-at : goal.decreases-loop-at
decreases-loop-at l = l.at
