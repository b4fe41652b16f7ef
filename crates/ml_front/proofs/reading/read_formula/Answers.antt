use Rattle.std.proofs.Common.{ap, sym, subst, ◌∙◌, ◌∷◌}
use Rattle.ml_lines.specs.Reading.{lines_of}
use Rattle.ml_front.specs.private.HeadParts.{TellsFormula}
use Rattle.ml_front.proofs.HeadFronts.{formula_refused}
use Rattle.ml_front.proofs.reading.read_formula.Goals as goal

pub returns-in-Err-clause-refused : goal.returns-in-Err-clause-refused
returns-in-Err-clause-refused c = λ a.
    subst (TellsFormula a c.args.logic c.args.text.now) (sym c.formula_refusal.ensures)
    (formula_refused a c.args.logic c.args.text.now c.in-Some-text_behind.given.now (lines_of c.in-Some.rest.now)
    c.in-Err.refusal (c.in-Some.ensures.lines ∙ ap (λ ws. ws ∷ lines_of c.in-Some.rest.now) c.in-Some-text_behind.ensures)
    c.in-Err.ensures.refused)
