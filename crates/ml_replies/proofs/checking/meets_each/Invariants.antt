use Rattle.std.proofs.Common.{take}
use Rattle.ml_replies.specs.private.Checks.{SoFarAs}
use Rattle.ml_replies.proofs.checking.meets_each.Given as goal

abbrev pub invariant-loop-problem : goal.invariant-loop-problem
invariant-loop-problem l = SoFarAs (take l.problem-index l.problems) l.structure l.state l.all
