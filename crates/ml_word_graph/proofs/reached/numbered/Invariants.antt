-- A draft, which grows by a node at each turn.
use Rattle.std.proofs.Common.{◌-◌, length}
use Rattle.ml_nodes.specs.NumberedValues.{IsDraft}
use Rattle.ml_word_graph.specs.private.Reached.{form_in, rank_in}
use Rattle.ml_word_graph.proofs.reached.numbered.Given as goal

abbrev pub invariant-loop-numbering : goal.invariant-loop-numbering
invariant-loop-numbering l =
    IsDraft (form_in l.all.nodes.items) (rank_in l.all.priorities.items) 0 (length l.all.nodes.items) l.numbering.values.keys
    l.numbering.draft.nodes.items l.numbering.draft.priorities.items

abbrev pub decreases-loop-numbering : goal.decreases-loop-numbering
decreases-loop-numbering l = length l.all.nodes.items - length l.numbering.draft.nodes.items
