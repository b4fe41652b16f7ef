-- Right claims of winners and choices solve the game.
use Rattle.ml_tangles.proofs.RightSolves.{right_solve}
use Rattle.ml_tangles.proofs.solving.is_solved_as.Goals as goal

pub returns-then-branch : goal.returns-then-branch
returns-then-branch c = λ t.
    right_solve c.args.game.now c.args.winner.now c.args.choice.now c.args.claims.now c.requires.claims c.requires.game
    c.requires.winner c.requires.choice c.requires.filled (c.in_ok-are_right.ensures c.if-branch.true)
