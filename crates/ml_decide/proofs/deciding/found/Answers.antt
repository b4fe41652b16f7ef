-- The trace automaton of a small graph has room.
use Rattle.ml_decide.proofs.ProblemGraphs.{has_room}
use Rattle.ml_decide.proofs.deciding.found.Goals as goal

pub by_whole_game-requires-clause-fits : goal.by_whole_game-requires-clause-fits
by_whole_game-requires-clause-fits c =
    has_room c.args.graph.now c.requires.small.is_graph c.requires.small.few_nodes

pub search-requires-clause-fits : goal.search-requires-clause-fits
search-requires-clause-fits c = has_room c.args.graph.now c.requires.small.is_graph c.requires.small.few_nodes
