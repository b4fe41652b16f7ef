use Rattle.std.proofs.Common.{take}
use Rattle.ml_lists.specs.InTurn.{RunsOn}
use Rattle.ml_synthesis.specs.Synthesis.{nexts}
use Rattle.ml_make.proofs.numbering.met_with_steps.Given as goal

abbrev pub invariant-loop-step : goal.invariant-loop-step
invariant-loop-step l = RunsOn l.met (take l.step-index (nexts l.steps)) l.more
