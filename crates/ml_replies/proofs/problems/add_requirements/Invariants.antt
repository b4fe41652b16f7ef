use Rattle.std.proofs.Common.{◌≡◌, ◌++◌, map, take}
use Rattle.ml_spec.specs.Joined.{requirements}
use Rattle.ml_spec.specs.Questions.{chosen, is_in}
use Rattle.ml_replies.specs.Meeting.{plain}
use Rattle.ml_replies.proofs.problems.add_requirements.Given as goal

abbrev pub invariant-loop-number : goal.invariant-loop-number
invariant-loop-number l =
    l.problems.items ≡ l.initial.problems.items ++ map plain (requirements (chosen (is_in l.taken) (take l.number l.items)))
