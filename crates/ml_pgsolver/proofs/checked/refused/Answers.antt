-- Any other refusal of the game is one of the text.
use Rattle.std.proofs.Common.{Some}
use Rattle.ml_pgsolver.proofs.CheckedAnswers.{front_refused}
use Rattle.ml_pgsolver.proofs.checked.refused.Goals as goal

pub returns-in_default : goal.returns-in_default
returns-in_default c =
    front_refused c.args.text.now (Some c.args.word) c.requires.word c.args.refusal c.in_default.not-Unknown
    c.requires.refused
