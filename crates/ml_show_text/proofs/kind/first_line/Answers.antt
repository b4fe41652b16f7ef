use Rattle.std.proofs.Common.{sym}
use Rattle.ml_show_text.proofs.KindLines.{first_of}
use Rattle.ml_show_text.proofs.kind.first_line.Goals as goal

pub returns-in-Some : goal.returns-in-Some
returns-in-Some c = sym (first_of c.args.text.now c.in-Some.line.now c.in-Some.field-0-1.now c.in-Some.ensures.lines)
