use Rattle.std.proofs.Common.{sym}
use Rattle.ml_extract.proofs.Board.{board_of}
use Rattle.ml_extract.proofs.WonEnds.{choice_known, ends_at_odd}
use Rattle.ml_extract.proofs.won_game.WonGame.choice_at.Goals as goal

pub returns-in-Even : goal.returns-in-Even
returns-in-Even c =
    let B = board_of c.args.self.now.graph.now c.args.self.now.arena.now c.args.self.now.solution.now c.requires.even in
    choice_known B c.args.position c.requires.won c.move_at.result (sym c.in-Even.ensures) c.move_at.ensures

pub returns-in-Odd : goal.returns-in-Odd
returns-in-Odd c =
    let B = board_of c.args.self.now.graph.now c.args.self.now.arena.now c.args.self.now.solution.now c.requires.even in
    ends_at_odd B c.args.position c.requires.won (sym c.in-Odd.ensures)
