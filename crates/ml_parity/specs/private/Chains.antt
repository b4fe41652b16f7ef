-- The moves of a game in chains, one chain for each vertex to which moves lead. Only private contracts and proofs cite
-- what stands here.
--
-- The moves stand in one list, each with the one before it that leads to the same vertex. A place is told by the number
-- behind it, and 0 tells that there is none. A chain goes down the list, so that what is added at the end changes none.
--
--   IsChain arrows at us   == the chain that begins at the number `at` has the sources us, the last move first
--   AreChains last arrows rows == for each vertex, the chain that begins with the last move to it has the sources of its row
--   AddsTo                 == a vertex is added to the rows of those to which its moves lead, once for each move
--   IsInChains             == there are such rows
use Rattle.std.specs.Prelude.{ℕ, zero, suc, ◌≡◌, ◌<◌, ◌≤◌, List, [], ◌∷◌, length, get_or}
use Rattle.ml_parity.specs.declared.zielonka.predecessors.Arrow.{Arrow}
use Rattle.ml_parity.specs.private.SolverSteps.{IsAdded}

-- the chain that begins at a number has these sources, the last move first
pub data IsChain (arrows : List Arrow) : ℕ → List ℕ → Type 0 where
  ended : IsChain arrows zero []
  linked : (k : ℕ) (x : Arrow) (us : List ℕ)
      → k < length arrows
      → get_or arrows k x ≡ x
      → x.before ≤ k
      → IsChain arrows x.before us
      → IsChain arrows (suc k) (x.source ∷ us)

-- for each vertex, the chain that begins with the last move to it has the sources of its row
pub record AreChains (last : List ℕ) (arrows : List Arrow) (rows : List (List ℕ)) : Type 0 where
  pub lists : length rows ≡ length last
  pub each : (v : ℕ) → v < length last → IsChain arrows (get_or last v 0) (get_or rows v [])

-- there are such rows
abbrev pub IsInChains : List ℕ → List Arrow → Type 0
IsInChains last arrows = (rows : List (List ℕ)) × AreChains last arrows rows

-- u is added to the rows of those to which the moves lead, once for each move
abbrev pub AddsTo : List ℕ → List Arrow → List ℕ → List Arrow → ℕ → List ℕ → Type 0
AddsTo last arrows last2 arrows2 u moves =
    (rows : List (List ℕ))
    → AreChains last arrows rows
    → (rows2 : List (List ℕ)) × AreChains last2 arrows2 rows2 × IsAdded rows rows2 u moves
