use Rattle.std.proofs.Common.{ap, map}
use Rattle.ml_refutation.specs.Views.{decision_of}
use Rattle.ml_refute.proofs.FoundEntries.{look_start}
use Rattle.ml_refute.proofs.deciding.Decided.of.Goals as goal

pub look-requires-clause-looked : goal.look-requires-clause-looked
look-requires-clause-looked c =
    look_start c.args.game.now.graph.now c.args.game.now.arena.now c.args.game.now.solution.now c.requires
    c.in_ok-found.found.vertices.keys (map decision_of c.in_ok-found.found.decisions.items)
    c.in_ok-found.ensures.vertices (ap (map decision_of) c.in_ok-found.ensures.decisions)
