use Rattle.std.proofs.Common.{map}
use Rattle.ml_replies.specs.Answers.{part_of}
use Rattle.ml_answers.specs.private.Reads.{ArePartsReadTo}
use Rattle.ml_answers.proofs.parts.read_parts.Given as goal

abbrev pub invariant-loop-number : goal.invariant-loop-number
invariant-loop-number l = ArePartsReadTo l.items l.marks l.fn.at l.number (map part_of l.parts.items) l.rest
