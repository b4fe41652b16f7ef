-- The determinacy law of parity games, with positional strategies.
--
-- The law is about the definition alone, and about games of any number of vertices. Its two first parts show that the
-- definition is not void: without plays every strategy would win everywhere.
--
--   BestStrategy g p == one strategy of p's that wins from every vertex that p wins
--   Determined g     == each vertex is won by exactly one player, and each player has one best strategy
--   DeterminacyLaw   == every parity game is determined
use Rattle.std.specs.Prelude.{ℕ, ◌<◌, ◌⊎◌}
use Rattle.ml_parity.specs.declared.players.Player.{Player}
use Rattle.ml_parity.specs.declared.players.Player.TheVariants.{Even, Odd}
use Rattle.ml_parity.specs.Game.{ParityGame, IsGame, size}
use Rattle.ml_parity.specs.Winner.{IsStrategyOf, WinsFrom, Wins}

-- one strategy of p's that wins from every vertex that p wins
pub record BestStrategy (g : ParityGame) (p : Player) : Type 0 where
  pub strategy : ℕ → ℕ
  pub is_strategy : IsStrategyOf g p strategy
  pub wins : (v : ℕ) → v < size g → Wins g p v → WinsFrom g p strategy v

-- each vertex is won by exactly one player, and each player has one best strategy
pub record Determined (g : ParityGame) : Type 0 where
  pub one : (v : ℕ) → v < size g → Wins g Even v ⊎ Wins g Odd v
  pub not_both : (v : ℕ) → v < size g → Wins g Even v → Wins g Odd v → ⊥
  pub best : (p : Player) → BestStrategy g p

-- every parity game is determined
abbrev pub DeterminacyLaw : Type 0
DeterminacyLaw = (g : ParityGame) → IsGame g → Determined g
