-- What the lists of a player's measures look like in a game, as the program holds it.
--
--   IsScale g p bounds cuts     == the bounds of the numbers, and for each vertex how many are looked at
--   IsSide g p player .. table  == the player is p, and the table is the least progress measure of p
use Rattle.std.specs.Prelude.{ℕ, ◌≡◌, ◌<◌, List, length, get_or}
use Rattle.ml_parity.specs.declared.players.Player.{Player}
use Rattle.ml_parity.specs.Game.{ParityGame, size}
use Rattle.ml_progress.specs.Measure.{IsLeastMeasure}
use Rattle.ml_progress.specs.private.Bounds.{bounds_of, cut_length}
use Rattle.ml_progress.specs.private.Tables.{TableRows}

-- the bounds of the numbers, and for each vertex how many are looked at
pub record IsScale (g : ParityGame) (p : Player) (bounds cuts : List ℕ) : Type 0 where
  pub bounds_are : bounds ≡ bounds_of g p
  pub long : length cuts ≡ size g
  pub cuts_are : (v : ℕ) → v < size g → get_or cuts v 0 ≡ cut_length g p v

-- the player is p, and the table is the least progress measure of p
pub record IsSide (g : ParityGame) (p player : Player) (bounds cuts : List ℕ) (t : TableRows) : Type 0 where
  pub player_is : player ≡ p
  pub scale : IsScale g p bounds cuts
  pub wide : t.wide ≡ length bounds
  pub least : IsLeastMeasure g p t.rows
