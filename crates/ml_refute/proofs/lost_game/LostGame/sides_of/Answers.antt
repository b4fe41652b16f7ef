use Rattle.std.proofs.Common.{arith}
use Rattle.ml_refute.proofs.Leaving.{sides_in}
use Rattle.ml_refute.proofs.lost_game.LostGame.sides_of.Goals as goal

pub bounds-moves-0 : goal.bounds-moves-0
bounds-moves-0 c =
    let s = sides_in _ _ _ c.requires.odd c.args.v c.requires.won c.args.node _ c.requires.turn c.moves-moves.ensures in
    omega (arith, s.are_two)

pub bounds-moves-1 : goal.bounds-moves-1
bounds-moves-1 c =
    let s = sides_in _ _ _ c.requires.odd c.args.v c.requires.won c.args.node _ c.requires.turn c.moves-moves.ensures in
    omega (arith, s.are_two)

pub overflow_cast-result : goal.overflow_cast-result
overflow_cast-result c =
    let s = sides_in _ _ _ c.requires.odd c.args.v c.requires.won c.args.node _ c.requires.turn c.moves-moves.ensures in
    omega (arith, s.left_low, c.size-size.ensures, c.size-size.type_inv)

pub overflow_cast-result-2 : goal.overflow_cast-result-2
overflow_cast-result-2 c =
    let s = sides_in _ _ _ c.requires.odd c.args.v c.requires.won c.args.node _ c.requires.turn c.moves-moves.ensures in
    omega (arith, s.right_low, c.size-size.ensures, c.size-size.type_inv)

pub returns : goal.returns
returns c =
    let s = sides_in _ _ _ c.requires.odd c.args.v c.requires.won c.args.node _ c.requires.turn c.moves-moves.ensures in
    s.are_sides
