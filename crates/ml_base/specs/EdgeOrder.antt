-- The order in which the edges of a structure ascend.
--
--   edge_cmp e f  == how the edges e and f stand: by source, then by the bytes of the action, then by target
use Rattle.std.specs.Ordering.{nat_cmp, ordering_then}
use Rattle.std.specs.declared.cmp.Ordering.{Ordering}
use Rattle.std.specs.Cmp.Lexicographic.{slice_cmp}
use Rattle.ml_base.specs.declared.structure.Edge.{Edge}

abbrev pub edge_cmp : Edge → Edge → Ordering
edge_cmp e f = ordering_then (nat_cmp e.source f.source) (ordering_then (slice_cmp nat_cmp e.action f.action) (nat_cmp e.target f.target))
