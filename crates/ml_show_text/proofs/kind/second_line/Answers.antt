use Rattle.std.proofs.Common.{sym, ◌∙◌}
use Rattle.ml_show_text.proofs.KindLines.{second_of}
use Rattle.ml_show_text.proofs.kind.second_line.Goals as goal

pub returns-in-Some : goal.returns-in-Some
returns-in-Some c =
    c.first_line.ensures
    ∙ sym (second_of c.args.text.now c.in-Some.field-0-0.now c.in-Some.rest.now c.in-Some.ensures.lines)
