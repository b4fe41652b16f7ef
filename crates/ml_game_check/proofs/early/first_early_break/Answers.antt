-- The first vertex whose claim breaks a rule is the one to name.
use Rattle.std.proofs.Common.{arith, below_more}
use Rattle.ml_game_check.proofs.FirstRules.{is_broken}
use Rattle.ml_game_check.proofs.early.first_early_break.Goals as goal

pub returns-in-Some : goal.returns-in-Some
returns-in-Some c = is_broken c.args.game.now c.args.claims.now c.loop-vertex.vertex c.in-Some.rule c.loop-vertex.invariant c.in-Some.ensures

pub loop-vertex-preserved : goal.loop-vertex-preserved
loop-vertex-preserved c = below_more _ _ c.loop-vertex.invariant c.in_default.ensures

pub returns : goal.returns
returns c = record { places = c.requires.places; kept = λ v low. c.loop-vertex.invariant v (omega arith) }
