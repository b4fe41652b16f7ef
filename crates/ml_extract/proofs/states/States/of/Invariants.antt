use Rattle.std.proofs.Common.{◌-◌, length}
use Rattle.ml_extract.specs.private.Numbered.{IsUnderWay}
use Rattle.ml_extract.proofs.states.States.of.Given as goal

abbrev pub invariant-loop-first : goal.invariant-loop-first
invariant-loop-first l =
    IsUnderWay l.game.graph.now l.game.arena.now l.game.solution.now l.states.firsts.keys l.states.lasts.items

abbrev pub decreases-loop-first : goal.decreases-loop-first
decreases-loop-first l = length l.game.arena.now.positions - length l.states.lasts.items
