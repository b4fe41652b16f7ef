use Rattle.ml_show_text.proofs.HeadLines.{not_fixed}
use Rattle.ml_show_text.proofs.undecided_tasks.behind_fixed.Goals as goal

pub returns-else-eq : goal.returns-else-eq
returns-else-eq c =
    not_fixed c.args.text.now c.in-Some.line.now c.args.fixed.now c.in-Some.rest.now c.in-Some.ensures.lines c.if-eq.ensures
