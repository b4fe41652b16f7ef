use Rattle.ml_extract.proofs.Board.{board_of}
use Rattle.ml_extract.proofs.WonEnds.{chosen_before, chosen_end, sides_fall}
use Rattle.ml_extract.proofs.won_game.WonGame.end_of.Goals as goal

pub loop-next-preserved : goal.loop-next-preserved
loop-next-preserved c =
    let B =
    board_of c.args.self.now.graph.now c.args.self.now.arena.now c.args.self.now.solution.now c.requires.even in (
      c.in-Some.ensures.won,
      λ w sp rest. c.loop-next.invariant.1 w sp
          (chosen_before B c.loop-next.last c.in-Some.next c.in-Some.ensures w sp rest),
    )

pub loop-next-smaller : goal.loop-next-smaller
loop-next-smaller c =
    let B = board_of c.args.self.now.graph.now c.args.self.now.arena.now c.args.self.now.solution.now c.requires.even in
    sides_fall B c.loop-next.last c.in-Some.next c.in-Some.ensures

pub returns : goal.returns
returns c =
    let B = board_of c.args.self.now.graph.now c.args.self.now.arena.now c.args.self.now.solution.now c.requires.even in
    chosen_end B c.args.first c.loop-next.last c.loop-next.invariant.0 c.in_default.ensures c.loop-next.invariant.1
