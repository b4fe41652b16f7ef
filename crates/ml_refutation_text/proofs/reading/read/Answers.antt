use Rattle.std.proofs.Common.{IfErr, subst}
use Rattle.ml_refutation_text.specs.BodyRules.{AtNames}
use Rattle.ml_refutation_text.specs.private.Reads.{TellsFault}
use Rattle.ml_refutation_text.specs.declared.rest.Rest.{Rest}
use Rattle.ml_refutation.specs.declared.refutation.Refutation as program
use Rattle.ml_refutation_text.specs.declared.lines.Lines as lines
use Rattle.ml_refutation_text.proofs.RefutationTexts.{readable_is_refutation, fault_or_readable}
use Rattle.ml_refutation_text.proofs.reading.read.Goals as goal

pub returns-in-Err-clause-no_text : goal.returns-in-Err-clause-no_text
returns-in-Err-clause-no_text c = λ fault is text.
    let at : Rest = record { text = c.args.bytes; line = c.args.first_line } in
    let v = c.args.version in
    let t = c.args.bytes.now in
    fault_or_readable v t c.args.first_line fault ((readable_is_refutation v t).1 text)
    (subst (λ r. IfErr {T = program.Refutation × lines.Lines} r (TellsFault v AtNames at)) is c.in-Err.ensures.refused)
