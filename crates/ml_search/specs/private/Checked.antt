-- What checks have come to, for private contracts alone.
--
--   AreAlike es i j      == the edges at the places i and j have one source and one action
--   EndsSoon g es k      == some places on, at most as many as there are diamonds of its action, no edge is like the one at k
--   AreReached m s flags == each state with a flag is reached from s
--   state_in a           == the item's state
--   Rise items           == each of the items comes behind the one before it
use Rattle.std.specs.Prelude.{ℕ, ◌+◌, ◌≡◌, ◌<◌, ◌≤◌, true, false, Bool, List, [], length, get_or, slice_index_or, IsTrue}
use Rattle.ml_base.specs.declared.structure.Edge.{Edge}
use Rattle.ml_base.specs.Structure.{Structure}
use Rattle.ml_extract.specs.Extraction.{IsReachedFrom}
use Rattle.ml_graph.specs.Graph.{Graph}
use Rattle.ml_refutation.specs.Refutation.{comes_before}
use Rattle.ml_refutation.specs.declared.refutation.Item.{Item}
use Rattle.ml_search.specs.Found.{diamonds_with}
use Rattle.ml_trace.specs.declared.letters.AutomatonState.{AutomatonState}

abbrev pub no_edge : Edge
no_edge = record { source = 0; action = []; target = 0 }

abbrev pub edge_at : List Edge → ℕ → Edge
edge_at es i = get_or es i no_edge

pub record AreAlike (es : List Edge) (i j : ℕ) : Type 0 where
  pub source : (edge_at es i).source ≡ (edge_at es j).source
  pub action : (edge_at es i).action ≡ (edge_at es j).action

pub record EndsSoon (g : Graph) (es : List Edge) (k : ℕ) : Type 0 where
  pub many : ℕ
  pub few : many ≤ diamonds_with g (edge_at es k).action
  pub ends : k + many < length es → AreAlike es k (k + many) → ⊥

abbrev pub AreReached : Structure → ℕ → List Bool → Type 0
AreReached m s flags = (t : ℕ) → slice_index_or flags t false ≡ true → IsReachedFrom m s t

abbrev pub state_in : Item → AutomatonState
state_in a = record { node = a.node; odd = a.odd }

abbrev pub Rise : List Item → Type 0
Rise items =
    (i : ℕ) (d : Item) → i + 1 < length items
    → IsTrue (comes_before (state_in (get_or items i d)) (state_in (get_or items (i + 1) d)))
