-- The two players of a parity game.
--
-- The players are the variants of the Rust enum. All that follows is the same for both of them: a theorem is said of
-- a player, and of the opponent of that player.
--
--   opponent p == the other player
--   side n     == the player for whom the lowest priority n is good: Even if n is even, Odd if n is odd
use Rattle.std.specs.Prelude.{ℕ, ◌%◌, cond, eqb}
use Rattle.ml_parity.specs.declared.players.Player.{Player}
use Rattle.ml_parity.specs.declared.players.Player.TheVariants.{Even, Odd}

-- the other player
abbrev pub opponent : Player → Player
opponent Even = Odd
opponent Odd = Even

-- the player for whom the lowest priority n is good
abbrev pub side : ℕ → Player
side n = cond (eqb (n % 2) 0) Even Odd
