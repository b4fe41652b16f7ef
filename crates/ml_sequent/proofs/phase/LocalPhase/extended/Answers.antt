use Rattle.std.proofs.Common.{List, ℕ, IfOk, subst}
use Rattle.ml_sequent.specs.Choice.{with_side}
use Rattle.ml_sequent.specs.Spread.{SpreadList, IsSpreadOf}
use Rattle.ml_sequent.proofs.OwnSpreads.{longer_ok}
use Rattle.ml_sequent.proofs.phase.LocalPhase.extended.Goals as goal

pub returns-clause-of : goal.returns-clause-of
returns-clause-of c =
    let sp = c.args.spread.now in
    subst (λ g. IfOk c.extend_by.result (λ (longer : SpreadList). (C : List ℕ) → IsSpreadOf g C sp.choice sp → IsSpreadOf g C (with_side sp.choice c.args.node c.args.side) longer))
    c.self.view_is c.extend_by.ensures.of

pub returns-clause-is_spread : goal.returns-clause-is_spread
returns-clause-is_spread c =
    longer_ok c.args.self.now c.args.spread.now (with_side c.args.spread.now.choice c.args.node c.args.side) c.extend_by.result c.requires.spread
    (returns-clause-of c)
