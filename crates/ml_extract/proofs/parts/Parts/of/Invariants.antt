use Rattle.std.proofs.Common.{◌≡◌}
use Rattle.ml_extract.specs.private.Gathered.{AreGathered}
use Rattle.ml_extract.specs.private.Numbered.{AreNumbered}
use Rattle.ml_extract.proofs.parts.Parts.of.Given as goal

abbrev pub invariant-loop-state : goal.invariant-loop-state
invariant-loop-state l =
    (l.phase ≡ l.game.graph.now)
    × ((n : AreNumbered l.game.graph.now l.game.arena.now l.game.solution.now l.states.firsts.keys l.states.lasts.items)
    → AreGathered l.game.graph.now l.game.arena.now n.states l.state l.parts.labels.items l.parts.edges.items)
