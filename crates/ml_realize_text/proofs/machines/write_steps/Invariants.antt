use Rattle.std.proofs.Common.{◌≡◌, ◌++◌, drop, map}
use Rattle.std.specs.List.{enumerate_from}
use Rattle.ml_lines.specs.Lines.{text_of}
use Rattle.ml_realize_text.specs.RealizeText.{step_line}
use Rattle.ml_realize_text.proofs.machines.write_steps.Given as goal

abbrev pub invariant-loop-set : goal.invariant-loop-set
invariant-loop-set l =
    l.out.items ++ text_of (map (step_line l.inputs l.outputs) (enumerate_from l.set (drop l.set l.steps)))
    ≡ l.fn.out.items ++ text_of (map (step_line l.inputs l.outputs) (enumerate_from 0 l.steps))
