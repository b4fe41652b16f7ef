use Rattle.std.proofs.Common.{◌≡◌, ◌++◌, drop, map}
use Rattle.std.specs.List.{enumerate_from}
use Rattle.ml_lines.specs.Lines.{text_of}
use Rattle.ml_realize_text.specs.RealizeText.{answer_line}
use Rattle.ml_realize_text.proofs.environments.write_answers.Given as goal

abbrev pub invariant-loop-set : goal.invariant-loop-set
invariant-loop-set l =
    l.out.items ++ text_of (map (answer_line l.outputs) (enumerate_from l.set (drop l.set l.next)))
    ≡ l.fn.out.items ++ text_of (map (answer_line l.outputs) (enumerate_from 0 l.next))
