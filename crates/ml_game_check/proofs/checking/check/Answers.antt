-- Where no claim breaks one of the first three rules, the fourth one decides.
use Rattle.ml_game_check.proofs.FirstRules.{all_kept, four_broken}
use Rattle.ml_game_check.proofs.checking.check.Goals as goal

pub returns-in-Some-2 : goal.returns-in-Some-2
returns-in-Some-2 c =
    four_broken c.args.game.now c.args.claims.now c.in_default.ensures c.in-Some-2.vertex
    (rw c.in-Some-2.is at c.in_ok-vertex.ensures)

pub returns-in-None : goal.returns-in-None
returns-in-None c =
    all_kept c.args.game.now c.args.claims.now c.in_default.ensures (rw c.in-None.is at c.in_ok-vertex.ensures)
