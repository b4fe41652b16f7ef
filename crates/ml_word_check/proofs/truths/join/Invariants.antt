use Rattle.ml_word_graph.proofs.Values.{connective_value}
use Rattle.ml_word_check.specs.private.Truths.{ChangedTo, at}
use Rattle.ml_word_check.proofs.truths.join.Given as goal

abbrev pub invariant-loop-i : goal.invariant-loop-i
invariant-loop-i l =
    ChangedTo (λ i. connective_value l.operator (at l.initial.left i) (at l.right i)) l.initial.left l.left l.i
