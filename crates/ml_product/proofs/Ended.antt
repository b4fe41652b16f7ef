-- The end of an exploration.
--
--   start_alone_reached == where the start stands alone, all are reached
--   started_explores == the start alone is explored
--   held_of     == where what was recorded has as many entries as there are positions, they are an arena's
use Rattle.std.proofs.Common.{ℕ, ◌≡◌, ◌+◌, ◌<◌, ◌≤◌, ◌^◌, ◌⊎◌, inl, inr, List, [], ◌∷◌, length, map, get_or, Contains, sym, ap, subst, arith}
use Rattle.std.proofs.lemmas.Bool.{cases_lt}
use Rattle.std.proofs.lemmas.List.{length-map, get_or_past}
use Rattle.ml_lists.specs.Member.{IsMember}
use Rattle.ml_lists.proofs.Members.{contains_none}
use Rattle.ml_graph.specs.Graph.{Graph}
use Rattle.ml_parity.specs.Game.{IsGame}
use Rattle.ml_product.specs.Position.{Position, start_of}
use Rattle.ml_product.specs.DecisionGame.{IsReached, at_start}
use Rattle.ml_product.specs.Arena.{game_of}
use Rattle.ml_product.specs.declared.pool.Pool.{Pool}
use Rattle.ml_product.specs.declared.recorded.Recorded.{Recorded}
use Rattle.ml_product.specs.private.Shared.{IsHeld, seen}
use Rattle.ml_product.specs.private.Pools.{positions_of}
use Rattle.ml_product.specs.private.Recorded.{owner_of, moves_of}
use Rattle.ml_product.specs.private.Exploring.{Explores, IsStarted, AreTurned, arena_of}
use Rattle.ml_product.proofs.ArenaGame.{size_is, moves_at, is_game}
use Rattle.ml_product.proofs.Explored.{is_arena}

-- where the start stands alone, all are reached
pub start_alone_reached : (g : Graph) (p : Position) → IsMember p (start_of g ∷ []) → IsReached g p
start_alone_reached g p (inl same) = subst (IsReached g) (sym same) at_start
start_alone_reached g p (inr none) = absurd none

-- the start alone is explored
pub started_explores : (g : Graph) (limit : ℕ) (b : Pool) → 1 ≤ limit → IsStarted g b → Explores g limit b
started_explores g limit b some is = record {
  is_pool = is.is_pool;
  are_reached = λ p m. start_alone_reached g p (subst (IsMember p) is.alone m);
  few = let e = ap length is.alone in omega arith;
}

-- where what was recorded has as many entries as there are positions, they are an arena's
module _ (g : Graph) (limit : ℕ) (b : Pool) (rs : List Recorded) (t : AreTurned g limit b rs)
    (whole : length rs ≡ length (positions_of b)) (small : limit < 2 ^ 32) where
  stored_length : length (positions_of b) ≡ length b.positions
  stored_length = length-map b.positions (seen b.sequents.keys b.histories.keys)

  game : IsGame (game_of (arena_of b rs))
  game = is_game g (arena_of b rs) (is_arena g limit b rs t whole)

  goes_on : (v : ℕ) → v < length b.positions
      → 0 < length (get_or (map (moves_of (length (positions_of b))) rs) v [])
  goes_on v low =
      let arena = is_arena g limit b rs t whole in
      subst (λ ms. 0 < length ms) (moves_at g (arena_of b rs) arena v (omega (arith, stored_length)))
      (game.goes_on v (omega (arith, size_is g (arena_of b rs) arena, stored_length)))

  in_range : (v w : ℕ) → (v < length b.positions) ⊎ (length b.positions ≤ v)
      → Contains (get_or (map (moves_of (length (positions_of b))) rs) v []) w
      → w < length b.positions + 2
  in_range v w (inl low) move =
      let arena = is_arena g limit b rs t whole in
      let below = game.in_range v w
      (subst (λ ms. Contains ms w) (sym (moves_at g (arena_of b rs) arena v (omega (arith, stored_length)))) move) in
      omega (arith, size_is g (arena_of b rs) arena, stored_length)
  in_range v w (inr past) move =
      let none = get_or_past (map (moves_of (length (positions_of b))) rs) v []
      (omega (arith, length-map rs (moves_of (length (positions_of b))), stored_length)) in
      absurd (contains_none w (subst (λ ms. Contains ms w) none move))

  pub held_of : IsHeld b.sequents.keys b.histories.keys b.positions (map owner_of rs)
      (map (moves_of (length (positions_of b))) rs)
  held_of = record {
    within = t.explores.is_pool.within;
    an_owner_each = omega (arith, length-map rs owner_of, stored_length);
    moves_each = omega (arith, length-map rs (moves_of (length (positions_of b))), stored_length);
    small = omega (arith, t.explores.few, stored_length);
    goes_on = goes_on;
    in_range = λ v w move. in_range v w (cases_lt v (length b.positions)) move;
  }
