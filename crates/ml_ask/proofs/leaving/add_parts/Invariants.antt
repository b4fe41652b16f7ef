use Rattle.std.proofs.Common.{length}
use Rattle.ml_spec.specs.Questions.{is_in}
use Rattle.ml_replies.proofs.Taken.{count}
use Rattle.ml_ask.specs.private.Steps.{IsRefuted}
use Rattle.ml_ask.proofs.leaving.add_parts.Given as goal

abbrev pub invariant-loop-number : goal.invariant-loop-number
invariant-loop-number l = IsRefuted l.asked l.refuted

abbrev pub decreases-loop-number : goal.decreases-loop-number
decreases-loop-number l = count (is_in l.refuted.taken.items) (length l.asked.specification.now.items.items)
