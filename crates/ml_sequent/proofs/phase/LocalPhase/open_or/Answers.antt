use Rattle.std.proofs.Common.{ℕ, MatchOption, subst}
use Rattle.ml_sequent.specs.Spread.{IsOpenOr, IsLeastOpenOr}
use Rattle.ml_sequent.proofs.phase.LocalPhase.open_or.Goals as goal

pub returns : goal.returns
returns c =
    let sp = c.args.spread.now in
    subst (λ g. MatchOption c.open_or.result ((n : ℕ) → IsOpenOr g sp n → ⊥) (IsLeastOpenOr g sp)) c.self.view_is c.open_or.ensures
