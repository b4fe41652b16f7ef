use Rattle.std.proofs.Common.{◌+◌, ◌-◌}
use Rattle.ml_bisim.specs.private.Rounds.{IsRefined, different}
use Rattle.ml_bisim.proofs.Different.{some_left}
use Rattle.ml_bisim.proofs.rounds.classes.Given as goal

abbrev pub invariant-rounds : goal.invariant-rounds
invariant-rounds l = IsRefined l.structure l.partition l.unsettled.items

abbrev pub decreases-rounds : goal.decreases-rounds
decreases-rounds l = (l.structure.states - different l.partition.class.items) + some_left l.unsettled.items
