-- Structures whose lists are in order, and what a structure is built from.
--
-- A structure that a program holds has one order for everything: the labels of each state ascend by their bytes, and
-- the edges ascend by source, action bytes and target. Nothing stands twice. So two structures with the same states,
-- labels and edges are the same value, and have the same text.
--
--   IsOrdered m                  == the labels of each state, and the edges, strictly ascend
--   HasNames m                   == each label is a name, and each action is one
use Rattle.std.specs.Prelude.{All}
use Rattle.std.specs.List.Sorted.{IsStrictlySortedBy}
use Rattle.std.specs.Ordering.{nat_cmp}
use Rattle.std.specs.Cmp.Lexicographic.{slice_cmp}
use Rattle.ml_base.specs.EdgeOrder.{edge_cmp}
use Rattle.ml_base.specs.Name.{IsName, IsAction}
use Rattle.ml_base.specs.Structure.{Structure}

pub record IsOrdered (m : Structure) : Type 0 where
  pub labels_ascend : All (IsStrictlySortedBy (slice_cmp nat_cmp)) m.labels
  pub edges_ascend : IsStrictlySortedBy edge_cmp m.edges

pub record HasNames (m : Structure) : Type 0 where
  pub labels_named : All (All IsName) m.labels
  pub actions_named : All (λ e. IsAction e.action) m.edges
