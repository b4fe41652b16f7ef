use Rattle.ml_bisim.proofs.Renaming.{RenamedSo}
use Rattle.ml_bisim.proofs.rounds.rename.Given as goal

abbrev pub invariant-loop-i : goal.invariant-loop-i
invariant-loop-i l = RenamedSo l.fn.partition l.states l.numbers l.names l.i l.partition l.renamed.items
