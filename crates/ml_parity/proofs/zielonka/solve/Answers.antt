-- The answer, filled up, is a solution of the game.
use Rattle.std.proofs.Common.{List, arith, refl, replicate, subst, true}
use Rattle.ml_parity.specs.declared.players.Player.{Player}
use Rattle.ml_parity.specs.Game.{size}
use Rattle.ml_parity.specs.private.SinkGame.{FilledBelow}
use Rattle.ml_parity.proofs.Filled.{solution_of_lists}
use Rattle.ml_parity.proofs.Whole.{whole_lists}
use Rattle.ml_parity.proofs.zielonka.solve.Goals as goal

pub returns-clause-ok : goal.returns-clause-ok
returns-clause-ok c =
    let filled = subst (λ (w : List Player).
    FilledBelow c.args.game.now w c.in_ok-winner.choice.items c.with_first_moves-choice.result.items
    (size c.args.game.now)) c.deref.ensures.value c.with_first_moves-choice.ensures in
    solution_of_lists c.args.game.now c.in_ok-winner.ensures.game (replicate (size c.args.game.now) true)
    c.in_ok-winner.winner.items c.in_ok-winner.winner.items c.in_ok-winner.choice.items
    c.with_first_moves-choice.result.items (size c.args.game.now) refl (omega arith) c.in_ok-winner.ensures.winners
    c.in_ok-winner.ensures.choices (whole_lists c.args.game.now c.in_ok-winner.winner.items
    c.in_ok-winner.choice.items c.in_ok-winner.ensures.solves) filled
