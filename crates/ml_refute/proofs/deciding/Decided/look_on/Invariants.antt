use Rattle.std.proofs.Common.{◌≡◌, length, map, ◌-◌}
use Rattle.ml_refutation.specs.Views.{decision_of}
use Rattle.ml_refute.specs.private.Found.{AreLooked}
use Rattle.ml_refute.proofs.deciding.Decided.look_on.Given as goal

abbrev pub invariant-loop-alloc : goal.invariant-loop-alloc
invariant-loop-alloc l =
    (l.branch.graph ≡ l.game.graph.now)
    × AreLooked l.game.graph.now l.game.arena.now l.game.solution.now l.self.vertices.keys
    (map decision_of l.self.decisions.items)

abbrev pub decreases-loop-alloc : goal.decreases-loop-alloc
decreases-loop-alloc l = length l.game.arena.now.positions - length l.self.decisions.items
