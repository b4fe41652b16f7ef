-- The graph of a well-formed problem without a large closure is a graph of few nodes.
use Rattle.ml_decide.proofs.ProblemGraphs.{translated}
use Rattle.ml_decide.proofs.graphs.graph_of.Goals as goal

pub returns-in-Ok : goal.returns-in-Ok
returns-in-Ok c =
    translated c.args.problem.now c.in-Ok.graph c.requires.well_formed c.in-Ok.ensures.graph c.in-Ok.ensures.fits
