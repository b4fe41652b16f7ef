use Rattle.ml_word_check.proofs.ValuesAround.{ComputedBack}
use Rattle.ml_word_check.proofs.cycles.around.Given as goal

abbrev pub invariant-loop-behind : goal.invariant-loop-behind
invariant-loop-behind l = ComputedBack l.cycle l.start l.left l.initial.right l.right l.later l.behind
