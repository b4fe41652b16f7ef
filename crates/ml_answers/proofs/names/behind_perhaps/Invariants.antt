use Rattle.std.proofs.Common.{◌≡◌}
use Rattle.std.specs.Option.{option_copied}
use Rattle.ml_lines.specs.Reading.{words_behind}
use Rattle.ml_answers.specs.private.Marks as marks
use Rattle.ml_answers.specs.private.Words.{bytes_left, words_left}
use Rattle.ml_answers.proofs.names.behind_perhaps.Given as goal

abbrev pub invariant-loop-words : goal.invariant-loop-words
invariant-loop-words l =
    marks.behind_perhaps (words_left l.names) ≡ marks.behind_perhaps (words_behind (option_copied l.words))

abbrev pub decreases-loop-words : goal.decreases-loop-words
decreases-loop-words l = bytes_left l.words
