use Rattle.std.proofs.Common.{length}
use Rattle.ml_spec.specs.Questions.{is_in}
use Rattle.ml_replies.proofs.Taken.{count}
use Rattle.ml_ask.proofs.AnswersInOrder.{AreLines}
use Rattle.ml_ask.proofs.asking.add_lines.Given as goal

abbrev pub invariant-loop-left : goal.invariant-loop-left
invariant-loop-left l = AreLines l.specification.logic l.specification.items.items l.limit l.left.items l.question l.answers.items

abbrev pub decreases-loop-left : goal.decreases-loop-left
decreases-loop-left l = count (is_in l.left.items) (length l.specification.items.items)
