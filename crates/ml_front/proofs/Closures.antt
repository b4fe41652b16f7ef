-- Graphs of closures, and how many nodes they have.
--
--   size_at_most  == the graph of a closure that has no more than n nodes has no more
--   not_large     == the closure of a graph with at most n nodes has no more
--   fits          == so it is of what is made, where all that is made has at most n nodes
--   some_or_large == each closure has a graph and no more than n nodes, or it has more
use Rattle.std.proofs.Common.{◌<◌, ◌≤◌, ◌⊎◌, ℕ, Result, Ok, Err, IfOk, inl, inr, ⊎_elim, arith}
use Rattle.std.proofs.lemmas.Bool.{cases_lt}
use Rattle.ml_graph.specs.Graph.{Graph, size}
use Rattle.ml_blocks.specs.BlockGraph.{IsGraphAt}
use Rattle.ml_blocks.specs.Closures.{HasMoreThan}
use Rattle.ml_blocks.specs.Places.{Place, Root}
use Rattle.ml_blocks.proofs.ClosureGraphs.{one_size, some_graph}

pub size_at_most : (start : Place) (g : Graph) (n : ℕ) → IsGraphAt g start → ¬ (HasMoreThan (Root start) n) → size g ≤ n
size_at_most start g n is none =
    ⊎_elim (λ (more : n < size g). absurd (none ((one_size start g n is).1 more))) (λ (small : size g ≤ n). small)
    (cases_lt n (size g))

pub not_large : (start : Place) (g : Graph) (n : ℕ) → IsGraphAt g start → size g ≤ n → ¬ (HasMoreThan (Root start) n)
not_large start g n is small = λ large. let more = (one_size start g n is).0 large in omega (arith, small, more)

pub fits : {E : Type 0} (start : Place) (n : ℕ) (r : Result Graph E)
    → IfOk r (λ g. IsGraphAt g start)
    → IfOk r (λ g. size g ≤ n)
    → IfOk r (λ g. ¬ (HasMoreThan (Root start) n))
fits start n (Ok g) is small = not_large start g n is small
fits start n (Err e) is small = tt

pub some_or_large : (start : Place) (n : ℕ)
    → ((g : Graph) × IsGraphAt g start × (¬ (HasMoreThan (Root start) n))) ⊎ HasMoreThan (Root start) n
some_or_large start n = by_size (some_graph start n)
  where
    by_size : ((g : Graph) × IsGraphAt g start × (size g ≤ n)) ⊎ HasMoreThan (Root start) n
        → ((g : Graph) × IsGraphAt g start × (¬ (HasMoreThan (Root start) n))) ⊎ HasMoreThan (Root start) n
    by_size (inl (g, is, small)) = inl (g, is, not_large start g n is small)
    by_size (inr large) = inr large
