use Rattle.ml_word_check.specs.private.Walked.{IsWalked, nones}
use Rattle.ml_word_check.proofs.word.word_from.Given as goal

abbrev pub invariant-loop-states : goal.invariant-loop-states
invariant-loop-states l = IsWalked l.next l.state l.states.items l.at l.places.items

abbrev pub decreases-loop-states : goal.decreases-loop-states
decreases-loop-states l = nones l.places.items
