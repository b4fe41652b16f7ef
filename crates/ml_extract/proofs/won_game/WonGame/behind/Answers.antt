use Rattle.std.proofs.Common.{sym, subst}
use Rattle.ml_extract.specs.private.WonPositions.{AreBehind}
use Rattle.ml_extract.proofs.Board.{board_of}
use Rattle.ml_extract.proofs.WonEnds.{behind_odd, behind_even}
use Rattle.ml_extract.proofs.won_game.WonGame.behind.Goals as goal

pub returns-in-Even : goal.returns-in-Even
returns-in-Even c =
    let g = c.args.self.now.graph.now in
    let a = c.args.self.now.arena.now in
    let B = board_of g a c.args.self.now.solution.now c.requires.even in
    behind_even B c.args.last c.requires.won c.requires.is_end (sym c.in-Even.ensures)

pub returns-in-Odd : goal.returns-in-Odd
returns-in-Odd c =
    let g = c.args.self.now.graph.now in
    let a = c.args.self.now.arena.now in
    let B = board_of g a c.args.self.now.solution.now c.requires.even in
    subst (AreBehind g a c.args.last) (sym c.moves.ensures)
    (behind_odd B c.args.last c.requires.won c.requires.is_end (sym c.in-Odd.ensures))
