-- The lowest vertex of the cycle is the one to name.
use Rattle.ml_game_check.proofs.BadCircles.{circle_told}
use Rattle.ml_game_check.proofs.circles.bad_along.Goals as goal

pub returns-then-are_chosen : goal.returns-then-are_chosen
returns-then-are_chosen c =
    circle_told c.args.game.now c.args.claims.now c.requires.early c.args.choices.now c.priorities_of.result.now
    c.priorities_of.ensures.value c.requires.choices (c.are_chosen.ensures c.if-are_chosen.true) c.args.claim c.args.start
    c.requires.claimed c.bad_lowest.result c.bad_lowest.ensures
