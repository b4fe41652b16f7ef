use Rattle.std.proofs.Common.{◌↔◌, IfOk, IsTrue, ap, subst, ◌∙◌}
use Rattle.ml_front.specs.Logics.{logic_of}
use Rattle.ml_front.specs.Problems.{IsAdmitted}
use Rattle.ml_front.proofs.Connected.{truth_logic}
use Rattle.ml_replies.proofs.checking.is_admitted.Goals as goal

pub returns : goal.returns
returns c =
    subst (λ k. IfOk c.speaks_of.result (λ admitted. IsTrue admitted ↔ IsAdmitted k c.args.structure.now))
    (ap logic_of c.truth.ensures ∙ truth_logic c.args.logic) c.speaks_of.ensures
