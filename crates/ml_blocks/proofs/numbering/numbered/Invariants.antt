-- A draft, which grows by a node at each turn.
use Rattle.std.proofs.Common.{◌-◌, length}
use Rattle.ml_blocks.specs.private.Forms.{begin_in, form_in, priority_in, start_in}
use Rattle.ml_nodes.specs.NumberedValues.{IsDraft}
use Rattle.ml_blocks.specs.private.Occurrences.{lists_of}
use Rattle.ml_blocks.proofs.numbering.numbered.Given as goal

abbrev pub invariant-loop-alloc : goal.invariant-loop-alloc
invariant-loop-alloc l =
    IsDraft (form_in l.table.occurrences.items (lists_of l.table.eventualities.items) (start_in l.first l.positive))
    (priority_in l.table.occurrences.items (lists_of l.table.eventualities.items)) (begin_in l.fn.beginning l.first l.positive)
    l.max l.numbering.values.keys l.numbering.draft.nodes.items l.numbering.draft.priorities.items

abbrev pub decreases-loop-alloc : goal.decreases-loop-alloc
decreases-loop-alloc l = l.max - length l.numbering.draft.nodes.items
