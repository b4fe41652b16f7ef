-- The class of the start is a state of the quotient.
use Rattle.std.proofs.Common.{◌<◌, length, arith}
use Rattle.std.proofs.lemmas.Grind.{get_or_default_zero}
use Rattle.ml_bisim.proofs.Turns.{runs_low}
use Rattle.ml_driver.proofs.quotienting.reduced.Goals as goal

pub new-model-requires : goal.new-model-requires
new-model-requires c =
    let made = c.in_ok-quotient.ensures in
    let class = c.in_ok-quotient.quotient.class.items in
    let start = c.args.shown.now.model.start in
    let low : start < length class = omega (arith, made.classes.each_state, c.requires.2.is_state) in
    let same = get_or_default_zero class start c.index-start.result.now low in
    omega (
      arith,
      c.index-start.ensures,
      same,
      runs_low 0 c.in_ok-quotient.quotient.structure.states class made.classes.in_turn start low,
    )
