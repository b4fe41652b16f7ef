use Rattle.std.proofs.Common.{◌++◌}
use Rattle.ml_task.specs.NameSets.{members}
use Rattle.ml_graph.specs.Graph.{prop_at}
use Rattle.ml_lists.proofs.PassingBelow.{AreBelow}
use Rattle.ml_word_automaton.specs.Words.{has}
use Rattle.ml_realize.proofs.letters.present.Given as goal

abbrev pub invariant-loop-prop : goal.invariant-loop-prop
invariant-loop-prop l = AreBelow (λ p. has (members (l.inputs ++ l.outputs) l.valuation) (prop_at l.graph p)) l.prop l.set
