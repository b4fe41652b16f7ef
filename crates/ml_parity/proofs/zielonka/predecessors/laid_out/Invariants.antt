-- The rows of the vertices so far are laid out.
use Rattle.std.proofs.Common.{ℕ, ◌≡◌, List, take}
use Rattle.ml_parity.specs.private.Chains.{AreChains}
use Rattle.ml_parity.specs.private.FlatRows.{IsLaid, rows_of}
use Rattle.ml_parity.proofs.zielonka.predecessors.laid_out.Given as goal

abbrev pub invariant-loop-head : goal.invariant-loop-head
invariant-loop-head l = record {
  laid : IsLaid l.starts.items l.sources.items;
  rows : (rows : List (List ℕ))
      → AreChains l.last l.arrows rows
      → rows_of l.starts.items l.sources.items ≡ take l.head-index rows;
}
