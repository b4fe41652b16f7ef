use Rattle.ml_paths.specs.Paths.{labels_at}
use Rattle.ml_graph.specs.Graph.{prop_at}
use Rattle.ml_lists.proofs.PassingBelow.{AreBelow}
use Rattle.ml_word_automaton.specs.Words.{has}
use Rattle.ml_paths.proofs.labels.present.Given as goal

abbrev pub invariant-loop-prop : goal.invariant-loop-prop
invariant-loop-prop l = AreBelow (λ p. has (labels_at l.structure l.state) (prop_at l.graph p)) l.prop l.set
