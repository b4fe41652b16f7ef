-- How many positions the decision game has at most.
--
--   bound g           == 2^N * 3^N * Q^Q * (Q + 1)^Q * (2Q + 3), for N nodes and Q states of the trace automaton: as many
--                        as there are sets of nodes, choices, ways to name a parent for each name and a last name for
--                        each state, and priorities
--   PositionBoundLaw  == no decision game has more positions
use Rattle.std.specs.Prelude.{ℕ, ◌+◌, ◌*◌, ◌^◌}
use Rattle.ml_graph.specs.Graph.{Graph, IsGraph, size}
use Rattle.ml_product.specs.Position.{automaton_states}
use Rattle.ml_product.specs.DecisionGame.{HasMoreThan}

abbrev pub bound : Graph → ℕ
bound g =
    let n = size g in let q = automaton_states g in
    2 ^ n * 3 ^ n * q ^ q * (q + 1) ^ q * (2 * q + 3)

abbrev pub PositionBoundLaw : Type 0
PositionBoundLaw = (g : Graph) → IsGraph g → ¬ (HasMoreThan g (bound g))
