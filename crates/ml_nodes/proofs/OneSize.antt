-- More than n values are reached exactly where the graph of the closure has more than n nodes.
--
--   one_size == the law
use Rattle.std.proofs.Common.{ℕ, ◌≡◌, ◌<◌, ◌↔◌, arith, List, length}
use Rattle.ml_graph.specs.Graph.{Graph, size}
use Rattle.ml_lists.proofs.FirstEntries.{none_more}
use Rattle.ml_lists.proofs.Decided.{Decided}
use Rattle.ml_nodes.specs.ClosureGraph.{Forms, HasMoreThan, IsGraphFrom, IsNumberedBy}
use Rattle.ml_nodes.proofs.ValueTests.{value_eq, value_eq-tells}

pub one_size : {P : Type 0} (F : Forms P) (same : (p q : P) → Decided (p ≡ q)) (root : P) (g : Graph) (n : ℕ)
    → IsGraphFrom F g root
    → HasMoreThan F root n ↔ (n < size g)
one_size {P = P} F same root g n is_g = (there, back)
  where
    ps : List P
    ps = (is_g.is_numbered).0

    N : IsNumberedBy F g root (is_g.is_numbered).0
    N = (is_g.is_numbered).1

    there : HasMoreThan F root n → n < size g
    there many =
        let few =
        none_more (value_eq same) (value_eq-tells same) many.places ps many.once (λ p m. ((N.is_closure).are_reached p).1 (many.are_reached p m)) in
        let more = many.is_longer in
        let sizes : size g ≡ length ps = N.one_each in
        omega (arith, few, more, sizes)

    back : n < size g → HasMoreThan F root n
    back low = record {
      places = ps;
      once = (N.is_closure).once;
      are_reached = λ p m. ((N.is_closure).are_reached p).0 m;
      is_longer = let sizes : size g ≡ length ps = N.one_each in omega (arith, low, sizes);
    }
