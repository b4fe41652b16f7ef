use Rattle.std.proofs.Common.{◌+◌, refl, sym}
use Rattle.ml_lines.proofs.Cuts.{slice_end}
use Rattle.ml_answers.proofs.Reading.{next_is, no_next}
use Rattle.ml_answers.proofs.rest.next_line.Goals as goal

pub returns-in-Some : goal.returns-in-Some
returns-in-Some c =
    next_is c.args.at _ c.in-Some.end (sym c.in-Some.ensures) (sym (slice_end c.args.at.text.now (c.in-Some.end + 1))) refl

pub returns-in-None : goal.returns-in-None
returns-in-None c = no_next c.args.at (sym c.in-None.ensures)
