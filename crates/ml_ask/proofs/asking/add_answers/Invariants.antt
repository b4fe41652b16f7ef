use Rattle.std.proofs.Common.{take}
use Rattle.ml_spec.specs.Questions.{asking_from}
use Rattle.ml_ask.specs.private.Steps.{AreAnswered}
use Rattle.ml_ask.proofs.asking.add_answers.Given as goal

abbrev pub invariant-loop-number : goal.invariant-loop-number
invariant-loop-number l =
    AreAnswered l.specification.logic l.specification.items.items l.limit
    (asking_from 0 (take l.number l.specification.items.items)) l.initial.answers.items l.answers.items
