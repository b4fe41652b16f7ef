use Rattle.std.proofs.Common.{◌++◌, sym, ap, subst, ◌∙◌}
use Rattle.ml_refutation.specs.Views.{of_parts}
use Rattle.ml_refutation_text.specs.BodyRules.{IsTextOf}
use Rattle.ml_refutation_text.specs.WrittenText.{written_text}
use Rattle.ml_refutation_text.proofs.WrittenTexts.{written_is_text}
use Rattle.ml_refutation_text.proofs.writing.write.Goals as goal

pub returns-clause-is_text : goal.returns-clause-is_text
returns-clause-is_text c =
    let given = c.args.refutation.now in
    let r = of_parts given.names given.sequents given.stacks given.entries in
    let v = c.args.version in
    let is = c.in_ok-append_refutation.ensures.text ∙ ap (λ out. out ++ written_text v r) c.new-out.ensures.items in
    subst (λ text. IsTextOf v text r) (sym is)
    (written_is_text v r given.is_refutation)
