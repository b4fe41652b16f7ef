use Rattle.std.proofs.Common.{IfErr, subst}
use Rattle.ml_realize_text.specs.RealizeRules.{AtTitle, IsRealizeFault}
use Rattle.ml_realize_text.specs.private.Reads.{TellsFault}
use Rattle.ml_realize_text.proofs.OneAnswer.{text_or_fault}
use Rattle.ml_realize_text.proofs.reading.read.Goals as goal

pub returns-clause-no_document : goal.returns-clause-no_document
returns-clause-no_document c = λ fault is t r is_text.
    let told : IsRealizeFault c.args.text.now fault =
    subst (λ x. IfErr x (TellsFault AtTitle (record { text = c.args.text; line = 1 }))) is c.read_lines.ensures.refused in
    text_or_fault c.args.text.now t r fault is_text told
