-- What is found in a solved game of a graph of the problem is found of the problem.
use Rattle.std.proofs.Common.{sym, subst, arith}
use Rattle.ml_decide.specs.Measures.{IsFinding}
use Rattle.ml_decide.proofs.Measures.{of_solved}
use Rattle.ml_decide.proofs.ProblemGraphs.{has_room}
use Rattle.ml_decide.proofs.measuring.measured.Goals as goal

pub solved_game-requires-clause-fits : goal.solved_game-requires-clause-fits
solved_game-requires-clause-fits c =
    let small = c.requires.translated.small in has_room c.args.graph.now small.is_graph small.few_nodes

pub returns-in-Ok : goal.returns-in-Ok
returns-in-Ok c =
    let p = c.args._problem.now in
    let n = c.args.limit in
    let made = c.in-Ok.ensures in
    subst (IsFinding n p) (sym c.finding_in.ensures)
    (of_solved p n (omega (arith, c.ranges.limit.fits)) c.requires.well_formed c.args.graph.now c.requires.translated
    c.in-Ok.game made.solved made.within)
