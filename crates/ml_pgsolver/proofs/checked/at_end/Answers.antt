-- So does one in which some successor is no id; any other is refused as it is.
use Rattle.std.proofs.Common.{None, subst}
use Rattle.ml_pgsolver.specs.Refusals.{IsRefusedBy}
use Rattle.ml_pgsolver.proofs.CheckedAnswers.{front_refused, no_word, unknown_faultless}
use Rattle.ml_pgsolver.proofs.checked.at_end.Goals as goal

pub returns-in-Unknown : goal.returns-in-Unknown
returns-in-Unknown c =
    no_word c.args.text.now c.requires.word
    (unknown_faultless c.args.text.now _ (subst (IsRefusedBy c.args.text.now) c.in-Unknown.is c.requires.refused))

pub returns-in_default : goal.returns-in_default
returns-in_default c =
    front_refused c.args.text.now None c.requires.word c.args.refusal c.in_default.not-Unknown c.requires.refused
