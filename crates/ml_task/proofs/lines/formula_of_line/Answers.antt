use Rattle.std.proofs.Common.{◌∙◌, sym, ap, subst}
use Rattle.ml_lines.specs.Reading.{words_of}
use Rattle.ml_task.specs.Task.{knows}
use Rattle.ml_task.specs.TaskText.{rules, AtFormula}
use Rattle.ml_task.specs.private.Stages.{Tells}
use Rattle.ml_task.proofs.FormulaRead.{unknown_broken, refused_broken}
use Rattle.ml_task.proofs.lines.formula_of_line.Goals as goal

pub returns-else-knows-clause-refused : goal.returns-else-knows-clause-refused
returns-else-knows-clause-refused c =
    unknown_broken c.args.seen.now.keys (words_of c.args.line.now) c.in-Some.given.now c.in-Some.ensures c.in-Ok.formula
    c.in-Ok.ensures
    (ap (knows c.args.seen.now.keys) (sym c.root.ensures.tree) ∙ sym c.knows.ensures ∙ c.if-knows.false)

pub returns-in-Err-clause-refused : goal.returns-in-Err-clause-refused
returns-in-Err-clause-refused c =
    subst (Tells (rules (AtFormula c.args.seen.now.keys)) (words_of c.args.line.now)) (sym c.formula_refusal.ensures)
    (refused_broken c.args.seen.now.keys (words_of c.args.line.now) c.in-Some.given.now c.in-Some.ensures
    c.in-Err.refusal c.in-Err.ensures)
