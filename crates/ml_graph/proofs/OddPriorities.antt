-- The odd priorities of a graph.
--
--   odd_is_odd == they are odd
use Rattle.std.proofs.Common.{◌≡◌, ℕ, ◌%◌, ◌==◌, filter}
use Rattle.std.proofs.lemmas.Bool.{eqb-true}
use Rattle.ml_lists.specs.Member.{IsMember}
use Rattle.ml_lists.proofs.Ascending.{ascending-member}
use Rattle.ml_lists.proofs.Member.{member-filter_from}
use Rattle.ml_graph.specs.Graph.{Graph, odd_priorities}

pub odd_is_odd : (g : Graph) (d : ℕ) → IsMember d (odd_priorities g) → d % 2 ≡ 1
odd_is_odd g d m =
    eqb-true (d % 2) 1
    (member-filter_from (λ k. k % 2 == 1) d g.priorities
    (ascending-member d (filter (λ k. k % 2 == 1) g.priorities) m)).1
