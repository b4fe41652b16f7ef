use Rattle.ml_front.specs.private.JoinedSoFar.{IsJoined}
use Rattle.ml_front.proofs.connecting.joined.Given as goal

abbrev pub invariant-loop-part : goal.invariant-loop-part
invariant-loop-part l = IsJoined l.logic l.yielded l.joined
