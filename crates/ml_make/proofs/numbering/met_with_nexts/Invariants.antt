use Rattle.std.proofs.Common.{take}
use Rattle.ml_lists.specs.InTurn.{RunsOn}
use Rattle.ml_make.proofs.numbering.met_with_nexts.Given as goal

abbrev pub invariant-loop-next : goal.invariant-loop-next
invariant-loop-next l = RunsOn l.met (take l.next-index l.nexts) l.more
