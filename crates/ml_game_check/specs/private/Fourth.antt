-- What is told of the fourth rule.
--
--   TellsFour g cs o       == o is a vertex whose claim breaks the fourth rule, and nothing where there is none
--   AreChosen g cs choices == each choice names a vertex, and from a vertex that is claimed for a player it is a way
use Rattle.std.specs.Prelude.{ℕ, ◌<◌, All, List, length, MatchOption, Option}
use Rattle.ml_parity.specs.declared.players.Player.{Player}
use Rattle.ml_parity.specs.Game.{ParityGame}
use Rattle.ml_parity.specs.Solution.{choice_at}
use Rattle.ml_game_check.specs.RightClaims.{BreaksFour, Claims, IsClaimed, IsWay}

abbrev pub TellsFour : ParityGame → Claims → Option ℕ → Type 0
TellsFour g cs o =
    MatchOption o ((p : Player) (v : ℕ) → BreaksFour g cs p v → ⊥) (λ v. (p : Player) × BreaksFour g cs p v)

pub record AreChosen (g : ParityGame) (cs : Claims) (choices : List ℕ) : Type 0 where
  pub within : All (λ w. w < length choices) choices
  pub ways : (p : Player) (v : ℕ) → IsClaimed cs p v → IsWay g cs p v (choice_at choices v)
