use Rattle.std.proofs.Common.{length, ap, arith}
use Rattle.ml_parity.specs.Solution.{GameSolution}
use Rattle.ml_extract.proofs.Board.{board_of}
use Rattle.ml_extract.proofs.WonEnds.{choice_inside, choice_read}
use Rattle.ml_extract.proofs.won_game.WonGame.move_at.Goals as goal

pub index-next-requires : goal.index-next-requires
index-next-requires c =
    let B = board_of c.args.self.now.graph.now c.args.self.now.arena.now c.args.self.now.solution.now c.requires.even in
    let same = ap (λ (s : GameSolution). length s.choice) c.solution.view_is in
    omega (arith, choice_inside B c.args.position c.requires.won, same, c.solution.inside.choice.ok.0)

pub returns-then-next-from : goal.returns-then-next-from
returns-then-next-from c =
    let B = board_of c.args.self.now.graph.now c.args.self.now.arena.now c.args.self.now.solution.now c.requires.even in
    let same = ap (λ (s : GameSolution). s.choice) c.solution.view_is in
    let is =
    choice_read B c.args.position c.requires.won c.solution.inside.choice.items c.index-next.result.now same
    c.index-next.ensures in
    (omega arith, is)

pub returns-else-next-from : goal.returns-else-next-from
returns-else-next-from c =
    let B = board_of c.args.self.now.graph.now c.args.self.now.arena.now c.args.self.now.solution.now c.requires.even in
    let same = ap (λ (s : GameSolution). s.choice) c.solution.view_is in
    let is =
    choice_read B c.args.position c.requires.won c.solution.inside.choice.items c.index-next.result.now same
    c.index-next.ensures in
    omega arith
