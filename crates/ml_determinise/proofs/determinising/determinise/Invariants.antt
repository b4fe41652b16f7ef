use Rattle.std.proofs.Common.{◌-◌, length}
use Rattle.ml_determinise.specs.Numbering.{rows_of}
use Rattle.ml_determinise.specs.private.Walk.{IsWalked}
use Rattle.ml_determinise.proofs.determinising.determinise.Given as goal

abbrev pub invariant-loop-alloc : goal.invariant-loop-alloc
invariant-loop-alloc l = IsWalked l.states l.letters l.start l.limit l.histories.keys (rows_of l.all.items)

abbrev pub decreases-loop-alloc : goal.decreases-loop-alloc
decreases-loop-alloc l = l.limit - length l.all.items
