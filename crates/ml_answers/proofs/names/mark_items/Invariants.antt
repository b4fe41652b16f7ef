use Rattle.ml_answers.specs.private.Words.{words_left}
use Rattle.ml_answers.proofs.Scanning.{IsScannedTo}
use Rattle.ml_answers.proofs.names.mark_items.Given as goal

abbrev pub invariant-loop-number : goal.invariant-loop-number
invariant-loop-number l =
    IsScannedTo l.items l.among l.number l.marks.items (words_left l.fn.needed) (words_left l.fn.perhaps)
    (words_left l.needed) (words_left l.perhaps)
