use Rattle.std.proofs.Common.{◌↔◌, IfOk, IsTrue, subst, sym}
use Rattle.ml_front.specs.Problems.{HoldsAs}
use Rattle.ml_model_check.proofs.holding.holds.Goals as goal

pub returns-in-Word-clause-holds : goal.returns-in-Word-clause-holds
returns-in-Word-clause-holds c =
    subst
    (λ f. IfOk c.holds_along_word.result
    (λ holds. IsTrue holds ↔ HoldsAs c.args.structure.now c.args.state c.args.problem.now.negated f))
    (sym c.in-Word.is) c.holds_along_word.ensures.holds
