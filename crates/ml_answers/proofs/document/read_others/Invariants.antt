use Rattle.ml_answers.specs.private.Reads.{HasRoom}
use Rattle.ml_answers.proofs.DocumentRead.{Others}
use Rattle.ml_answers.proofs.document.read_others.Given as goal

abbrev pub invariant-loop-number : goal.invariant-loop-number
invariant-loop-number l = Others l.items l._start l.stated.items l.rest l.number × HasRoom l.rest
