-- What the solution of the game of ways tells.
use Rattle.ml_game_check.proofs.WayGames.{tells_four}
use Rattle.ml_game_check.proofs.cycles.solved_break.Goals as goal

pub returns : goal.returns
returns c =
    tells_four c.args.game.now c.args.claims.now c.in_ok-ways.ways c.in_ok-solution.solution
    c.in_ok-ways.ensures.game c.requires c.in_ok-ways.ensures.made c.in_ok-solution.ensures.ok
    c.lost_way.result c.lost_way.ensures
