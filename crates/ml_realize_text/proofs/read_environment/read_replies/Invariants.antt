use Rattle.std.proofs.Common.{◌≡◌, length}
use Rattle.ml_realize_text.proofs.EnvironmentRead.{RepliesTo}
use Rattle.ml_realize_text.proofs.read_environment.read_replies.Given as goal

abbrev pub invariant-loop-set : goal.invariant-loop-set
invariant-loop-set l = RepliesTo l.outputs l.states l.fn.at l.next.items l.rest × (length l.next.items ≡ l.set)
