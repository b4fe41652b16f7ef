use Rattle.std.proofs.Common.{IfOk, subst}
use Rattle.ml_sequent.specs.Spread.{IsSpreadOf}
use Rattle.ml_sequent.proofs.OwnSpreads.{own_spread_ok}
use Rattle.ml_sequent.proofs.phase.LocalPhase.spread.Goals as goal

pub returns-clause-is_spread : goal.returns-clause-is_spread
returns-clause-is_spread c =
    own_spread_ok c.args.self.now c.args.sequent.now c.args.choice.now c.spread_by.result
    (subst (λ g. IfOk c.spread_by.result (IsSpreadOf g c.args.sequent.now c.args.choice.now)) c.self.view_is
    c.spread_by.ensures.of)
