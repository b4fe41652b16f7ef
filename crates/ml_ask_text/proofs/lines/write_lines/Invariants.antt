use Rattle.std.proofs.Common.{◌≡◌, ◌++◌, map, take}
use Rattle.ml_answers.specs.Lines.{lines_of}
use Rattle.ml_replies.specs.Answers.{replied_of}
use Rattle.ml_ask_text.proofs.lines.write_lines.Given as goal

abbrev pub invariant-loop-answered : goal.invariant-loop-answered
invariant-loop-answered l =
    l.out.items ≡ l.fn.out.items ++ lines_of l.items (map replied_of (take l.answered-index l.answers))
