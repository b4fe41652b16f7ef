-- A game without a fault ends too soon.
use Rattle.ml_pgsolver.proofs.CheckedAnswers.{no_word}
use Rattle.ml_pgsolver.proofs.checked.without_word.Goals as goal

pub returns-in-Ok : goal.returns-in-Ok
returns-in-Ok c = no_word c.args.text.now c.requires c.in-Ok.ensures
