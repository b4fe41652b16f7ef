use Rattle.std.proofs.Common.{subst, IsTrue, ◌↔◌, ◌≡◌}
use Rattle.ml_history.proofs.arrays.FlatStep.{same_value}
use Rattle.ml_history.proofs.flat.HistoryPartialEq.eq.Goals as goal

pub returns-clause-value : goal.returns-clause-value
returns-clause-value c =
    same_value c.args.self.now c.args.other.now c.is_same.result
    (subst (λ h. IsTrue c.is_same.result ↔ h ≡ c.args.other.now) c.self.view_is
    (subst (λ g. IsTrue c.is_same.result ↔ c.self.inside.stacks ≡ g) c.other.view_is c.is_same.ensures))
