-- What the values of the program for heights stand for.
--
--   graph_of size top arcs == the graph that these values hold
--   rows_of rows           == the lists of numbers that the vectors hold
--   RowsFall q from to     == the numbers to don't exceed the numbers from up to index q / 2; for an even q the last is less
use Rattle.std.specs.Prelude.{ℕ, ◌≡◌, ◌/◌, ◌%◌, ◌<◌, ◌≤◌, List, map, get_or}
use Rattle.std.specs.Global.{Vec}
use Rattle.ml_parity.specs.declared.one_sided.graph.Arc.{Arc}
use Rattle.ml_parity.specs.OneSided.{OneSidedGraph}

-- the graph that these values hold
abbrev pub graph_of : ℕ → ℕ → Vec Arc → OneSidedGraph
graph_of size top arcs = record { size = size; top = top; arcs = arcs.items }

-- the lists of numbers that the vectors hold
abbrev pub rows_of : Vec (Vec ℕ) → List (List ℕ)
rows_of rows = map (λ (row : Vec ℕ). row.items) rows.items

-- no number of to up to index q / 2 is above that of from; if q is even, that at q / 2 is below it
pub record RowsFall (q : ℕ) (from to : List ℕ) : Type 0 where
  pub stays : (k : ℕ) → k ≤ q / 2 → get_or to k 0 ≤ get_or from k 0
  pub falls : q % 2 ≡ 0 → get_or to (q / 2) 0 < get_or from (q / 2) 0
