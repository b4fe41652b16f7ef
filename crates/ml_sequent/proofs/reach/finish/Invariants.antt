use Rattle.std.proofs.Common.{◌-◌, List}
use Rattle.ml_sequent.specs.declared.reach.Visit.{Visit}
use Rattle.ml_sequent.specs.private.Reach.{behind, IsSearch, HasRoom}
use Rattle.ml_sequent.proofs.reach.finish.Given as goal

abbrev pub invariant-loop-i : goal.invariant-loop-i
invariant-loop-i l = record {
  room : HasRoom l.graph l.levels l.reach;
  search : (C : List Visit)
      → IsSearch (behind l.graph l.choice l.levels.ranks l.floor) C l.done l.initial.reach.found
      → IsSearch (behind l.graph l.choice l.levels.ranks l.floor) C l.i l.reach.found;
}

abbrev pub decreases-loop-i : goal.decreases-loop-i
decreases-loop-i l = l.reach.room - l.i
