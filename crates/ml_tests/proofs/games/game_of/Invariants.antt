-- The three lists are equally long, and with the vertices that are left they are as long as all vertices.
use Rattle.std.proofs.Common.{◌≡◌, ◌+◌, vec_len}
use Rattle.ml_tests.proofs.games.game_of.Given as goal

abbrev pub invariant-loop-vertex : goal.invariant-loop-vertex
invariant-loop-vertex l =
    (vec_len l.priority ≡ vec_len l.owner)
    × (vec_len l.successors ≡ vec_len l.owner)
    × (vec_len l.owner + l.vertex-iterator.rest.len ≡ vec_len l.fn.vertices)
