use Rattle.std.proofs.Common.{rules, ◌<◌, length, sym, subst}
use Rattle.ml_sequent.specs.Step.{IsDiamondOf}
use Rattle.ml_sequent.proofs.StepPremises.{own_choice, diamond_of}
use Rattle.ml_game_tests.proofs.sequent_tests.first_step.Goals as goal

pub step-requires-clause-spread : goal.step-requires-clause-spread
step-requires-clause-spread c =
    own_choice c.args.graph.now c.args.sequent.now c.empty.result c.in_ok-spread.spread c.in_ok-spread.ensures.of

pub step-requires-clause-diamond : goal.step-requires-clause-diamond
step-requires-clause-diamond c =
    let low : 0 < length c.in_ok-diamonds.diamonds.items = search rules in
    subst (IsDiamondOf c.args.graph.now c.in_ok-spread.spread) (sym c.index.ensures)
    (diamond_of c.args.graph.now c.in_ok-spread.spread c.in_ok-diamonds.diamonds.items 0 c.index.result.now c.in_ok-diamonds.ensures low)
