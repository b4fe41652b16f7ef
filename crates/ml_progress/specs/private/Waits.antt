-- The moves of a game from behind, in chains, and the vertices that wait to be lifted.
--
--   InChain arrows u at        == the chain from the number `at` on has an arrow from u
--   IsLinked n arrows          == each arrow leads from a vertex below n, to one before it in its chain
--   AreChained n last arrows   == n chains of such arrows, by their last ones
--   AddsMoves n u k moves ..   == the chains after have what those before have, and the first k moves from u
--   ChainsUpTo g k last arrows == the chains have all moves from vertices below k, each with the vertex to which it leads
--   IsWaiting flags queue      == what is flagged stands in the queue, where there are vertices alone
--   Woken m flags flags2 P     == further flags: each vertex with P is flagged, or has the top in m
use Rattle.std.specs.Prelude.{ℕ, ◌≡◌, ◌-◌, ◌<◌, ◌≤◌, ◌⊎◌, Bool, true, false, List, length, get_or, None}
use Rattle.ml_lists.specs.Member.{IsMember}
use Rattle.ml_parity.specs.Game.{ParityGame, HasMove, size}
use Rattle.ml_progress.specs.Measure.{Measure, measure_at}
use Rattle.ml_progress.specs.declared.predecessors.Arrow.{Arrow}

-- no arrow
abbrev pub no_arrow : Arrow
no_arrow = record { source = 0; before = 0 }

-- the arrow of the number `at`, which counts from 1
abbrev pub arrow_at : List Arrow → ℕ → Arrow
arrow_at arrows at = get_or arrows (at - 1) no_arrow

-- the chain from the number `at` on has an arrow from u
pub data InChain (arrows : List Arrow) (u : ℕ) : ℕ → Type 0 where
  here : (at : ℕ) → 0 < at → (arrow_at arrows at).source ≡ u → InChain arrows u at
  later : (at : ℕ) → 0 < at → InChain arrows u (arrow_at arrows at).before → InChain arrows u at

-- each arrow leads from a vertex below n, and the one before it in its chain has a lower number
pub record IsLinked (n : ℕ) (arrows : List Arrow) : Type 0 where
  pub sources : (at : ℕ) → 0 < at → at ≤ length arrows → (arrow_at arrows at).source < n
  pub falls : (at : ℕ) → 0 < at → at ≤ length arrows → (arrow_at arrows at).before < at

-- the last arrows of all chains, one for each of n vertices
pub record AreChained (n : ℕ) (last : List ℕ) (arrows : List Arrow) : Type 0 where
  pub long : length last ≡ n
  pub low : (v : ℕ) → get_or last v 0 ≤ length arrows
  pub linked : IsLinked n arrows

-- the chains after are those before, with some of the moves from u put in: those that have a place below k
pub record AddsMoves (n u k : ℕ) (moves last : List ℕ) (arrows : List Arrow) (last2 : List ℕ) (arrows2 : List Arrow) : Type 0 where
  pub chained : AreChained n last2 arrows2
  pub kept : (w v : ℕ) → InChain arrows w (get_or last v 0) → InChain arrows2 w (get_or last2 v 0)
  pub added : (j : ℕ) → j < k → InChain arrows2 u (get_or last2 (get_or moves j 0) 0)

-- the chains have all moves from vertices below k
pub record ChainsUpTo (g : ParityGame) (k : ℕ) (last : List ℕ) (arrows : List Arrow) : Type 0 where
  pub chained : AreChained (size g) last arrows
  pub all : (u v : ℕ) → u < k → HasMove g u v → InChain arrows u (get_or last v 0)

-- what is flagged stands in the queue, where there are vertices alone
pub record IsWaiting (flags : List Bool) (queue : List ℕ) : Type 0 where
  pub stands : (v : ℕ) → get_or flags v false ≡ true → IsMember v queue
  pub low : (v : ℕ) → IsMember v queue → v < length flags

-- the flags are those that were, with further ones: each vertex with P is flagged or has the top
pub record Woken (m : Measure) (flags flags2 : List Bool) (P : ℕ → Type 0) : Type 0 where
  pub long : length flags2 ≡ length flags
  pub kept : (v : ℕ) → get_or flags v false ≡ true → get_or flags2 v false ≡ true
  pub woken : (v : ℕ) → P v → (get_or flags2 v false ≡ true) ⊎ (measure_at m v ≡ None)
