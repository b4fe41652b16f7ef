-- A vertex that is lost has a claim, and so stands in the list.
use Rattle.std.proofs.Common.{arith, below_more, sym, ◌∙◌}
use Rattle.std.proofs.lemmas.Bool.{false≢true}
use Rattle.ml_game_check.specs.RightClaims.{claim}
use Rattle.ml_game_check.proofs.FirstRules.{claimed_low}
use Rattle.ml_game_check.proofs.cycles.first_lost.Goals as goal

pub loop-vertex-preserved : goal.loop-vertex-preserved
loop-vertex-preserved c =
    below_more _ _ c.loop-vertex.invariant
    (λ lost. false≢true (sym c.if-is_lost.false ∙ c.is_lost.ensures.1 (claim lost.0 lost.1.0, lost.1.1, lost.2)))

pub returns : goal.returns
returns c = λ v lost.
    c.loop-vertex.invariant v (omega (arith, claimed_low c.args.claims.now lost.0 v lost.1, c.loop-vertex-test.false)) lost
