use Rattle.std.specs.Option.{option_copied}
use Rattle.ml_lines.specs.Reading.{words_behind}
use Rattle.ml_task.proofs.NamesRead.{AreNamesTo, size_left}
use Rattle.ml_task.proofs.words.names_behind.Given as goal

abbrev pub invariant-loop-left : goal.invariant-loop-left
invariant-loop-left l =
    AreNamesTo (words_behind (option_copied l.fn.behind)) l.names.items (option_copied l.left)

abbrev pub decreases-loop-left : goal.decreases-loop-left
decreases-loop-left l = size_left (option_copied l.left)
