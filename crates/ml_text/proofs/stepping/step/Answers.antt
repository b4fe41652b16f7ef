use Rattle.std.proofs.Common.{sym, ◌∙◌, ap}
use Rattle.ml_text.specs.private.Machine as machine
use Rattle.ml_text.specs.private.Views.{mode_view, stack_view}
use Rattle.ml_text.proofs.Reduce.{step-behind}
use Rattle.ml_text.proofs.stepping.step.Goals as goal

pub returns-in_ok-next-in-Whole : goal.returns-in_ok-next-in-Whole
returns-in_ok-next-in-Whole g c =
    let t = g.L.Notation.tables in
    let stack = stack_view t c.args.stack.now.items in
    c.in_ok-next-in-Whole.ensures
    ∙ step-behind t.grammar stack _ (t.tree c.in-Whole.tree) _ (t.sign c.args.sign) c.in_ok-reduced-in-Whole.ensures
    ∙ sym (ap (λ m. machine.step t.grammar (mode_view t m) stack (t.sign c.args.sign)) c.in-Whole.is)
