-- What is true of extracted refutations.
--
-- That they break no rule doesn't rest on who wins: their heights are the longest counts in the graph of the go's, and
-- with these no rule is broken. That there are such counts does: it is asked that Odd wins the start.
--
--   IsMet a s v         == a play from the start in which Odd makes the solution's moves meets the vertex v
--   IsReachedByOdd a s p == such a play meets the vertex of p, at which no side is chosen
--   EntriesAreReached   == the positions of the entries are exactly these
--   OneRefutation       == a solution makes one refutation at most
--   ExtractedAccepted   == the extracted refutation breaks no rule of acceptance
--   NoEvenCycle         == where Odd wins the start, no cycle of go's is even, so that the counts exist
--   SomeRefutation      == where Odd wins the start, a solution makes a refutation
--   ExtractedRefutation == it is a refutation with numbers of 32 bits and splits that aren't nested too deep, where the
--                          graph has no more nodes than splits may be nested, and its priorities and the number of
--                          positions fit
use Rattle.std.specs.Prelude.{ℕ, ◌≡◌, ◌≤◌, ◌↔◌, [], length, slice_get, Some, All}
use Rattle.ml_lists.specs.Member.{IsMember}
use Rattle.ml_graph.specs.Graph.{Graph, IsGraph, size}
use Rattle.ml_parity.specs.declared.players.Player.TheVariants.{Odd}
use Rattle.ml_parity.specs.Game.{HasMove, owner_of}
use Rattle.ml_parity.specs.OneSided.{IsOneSided, EvenCycleIn}
use Rattle.ml_parity.specs.Solution.{GameSolution, IsSolution, choice_at, winner_at}
use Rattle.ml_product.specs.Arena.{Arena, IsArenaOf, game_of}
use Rattle.ml_product.specs.Position.{Position}
use Rattle.ml_refutation.specs.declared.refutation.TheConstants.{NESTING_LIMIT}
use Rattle.ml_refutation.specs.Refutation.{Refutation, IsRefutation, Fits}
use Rattle.ml_refutation.specs.Acceptance.{IsAccepted}
use Rattle.ml_refute.specs.Extracted.{IsOutlineOf, go_graph, IsRefutationOf}

pub data IsMet (a : Arena) (s : GameSolution) : ℕ → Type 0 where
  at_start : IsMet a s 0
  by_move : (v w : ℕ)
      → IsMet a s v
      → HasMove (game_of a) v w
      → (owner_of (game_of a) v ≡ Odd → w ≡ choice_at s.choice v)
      → IsMet a s w

pub record IsReachedByOdd (a : Arena) (s : GameSolution) (p : Position) : Type 0 where
  pub vertex : ℕ
  pub is_met : IsMet a s vertex
  pub is_here : slice_get a.positions vertex ≡ Some p
  pub unchosen : p.choice ≡ []

abbrev pub EntriesAreReached : Type 0
EntriesAreReached =
    (g : Graph) (a : Arena) (s : GameSolution) (r : Refutation) → IsArenaOf g a → IsSolution (game_of a) s
    → (o : IsOutlineOf g a s r) → (p : Position) → IsMember p o.positions ↔ IsReachedByOdd a s p

abbrev pub OneRefutation : Type 0
OneRefutation =
    (g : Graph) (a : Arena) (s : GameSolution) (r q : Refutation) → IsArenaOf g a → IsRefutationOf g a s r
    → IsRefutationOf g a s q → r ≡ q

abbrev pub ExtractedAccepted : Type 0
ExtractedAccepted =
    (g : Graph) (a : Arena) (s : GameSolution) (r : Refutation) → IsArenaOf g a → IsRefutationOf g a s r
    → IsAccepted g r

abbrev pub NoEvenCycle : Type 0
NoEvenCycle =
    (g : Graph) (a : Arena) (s : GameSolution) (r : Refutation) → IsArenaOf g a → IsSolution (game_of a) s
    → winner_at s.winner 0 ≡ Odd → IsOutlineOf g a s r → IsOneSided (go_graph r) × (¬ (EvenCycleIn (go_graph r)))

abbrev pub SomeRefutation : Type 0
SomeRefutation =
    (g : Graph) (a : Arena) (s : GameSolution) → IsGraph g → IsArenaOf g a → IsSolution (game_of a) s
    → winner_at s.winner 0 ≡ Odd → (r : Refutation) × IsRefutationOf g a s r

abbrev pub ExtractedRefutation : Type 0
ExtractedRefutation =
    (g : Graph) (a : Arena) (s : GameSolution) (r : Refutation) → IsGraph g → size g ≤ NESTING_LIMIT
    → All Fits g.priorities → Fits (length a.positions) → IsArenaOf g a → IsRefutationOf g a s r → IsRefutation r
