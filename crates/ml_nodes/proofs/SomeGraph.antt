-- A closure has a graph of at most n nodes, or more than n values are reached.
--
-- Values are met breadth first from the root. Where the search ends, the graph is made of what it met; and where it doesn't,
-- it met more than n.
--
--   some_graph == the law
use Rattle.std.proofs.Common.{ℕ, ◌≡◌, ◌≤◌, ◌⊎◌, inl, inr, arith, Bool}
use Rattle.std.specs.Bool.{Decides}
use Rattle.ml_graph.specs.Graph.{Graph, size}
use Rattle.ml_lists.proofs.BreadthFirstSearch.{Ended, TooMany, search}
use Rattle.ml_lists.proofs.FirstEntries.{apart_places}
use Rattle.ml_lists.proofs.Decided.{Decided}
use Rattle.ml_nodes.specs.ClosureGraph.{Forms, HasMoreThan, IsGraphFrom, IsReached, at_root, behind}
use Rattle.ml_nodes.proofs.GraphOfValues.{leads, made_of, is_graph, is_numbered, size_is}
use Rattle.ml_nodes.proofs.ValueTests.{value_eq, value_eq-tells}

pub some_graph : {P : Type 0} (F : Forms P) (same : (p q : P) → Decided (p ≡ q)) (root : P) (n : ℕ)
    → ((g : Graph) × IsGraphFrom F g root × (size g ≤ n)) ⊎ HasMoreThan F root n
some_graph {P = P} F same root n = from (search eq (leads F) root (IsReached F root) at_root behind tells n)
  where
    eq : P → P → Bool
    eq = value_eq same

    tells : (p q : P) → Decides (eq p q) (p ≡ q)
    tells = value_eq-tells same

    from : Ended eq (leads F) root (IsReached F root) n ⊎ TooMany eq (leads F) root (IsReached F root) n
        → ((g : Graph) × IsGraphFrom F g root × (size g ≤ n)) ⊎ HasMoreThan F root n
    from (inl e) =
        let few = e.few in
        let sizes = size_is F eq tells root e.values e.looked in
        inl (
          made_of F eq e.values,
          record {
            is_graph = is_graph F eq tells root e.values e.looked;
            is_numbered = (e.values, is_numbered F eq tells root e.values e.looked);
          },
          omega (arith, few, sizes),
        )
    from (inr many) = inr (record {
      places = many.values;
      once = apart_places many.values many.apart;
      are_reached = many.reached;
      is_longer = many.more;
    })
