use Rattle.std.proofs.Common.{◌≡◌, take}
use Rattle.ml_spec.specs.Joined.{requirements}
use Rattle.ml_spec.specs.Questions.{chosen, is_in}
use Rattle.ml_spec.proofs.joining.requirements_of.Given as goal

abbrev pub invariant-loop-number : goal.invariant-loop-number
invariant-loop-number l = l.parts.items ≡ requirements (chosen (is_in l.taken) (take l.number l.items))
