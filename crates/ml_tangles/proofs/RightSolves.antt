-- Where the claims of winners and choices are right, they solve the game.
--
--   makes       == the choices are the moves that are claimed
--   right_solve == the theorem
use Rattle.std.proofs.Common.{ℕ, ◌≡◌, ◌<◌, List, Some, length, arith, sym, ◌∙◌}
use Rattle.ml_parity.specs.declared.players.Player.{Player}
use Rattle.ml_parity.specs.Game.{ParityGame, IsGame, size}
use Rattle.ml_parity.specs.Solution.{choice_at, winner_at}
use Rattle.ml_game_check.specs.Laws.{Makes}
use Rattle.ml_game_check.specs.RightClaims.{AreRight, Claims, IsClaimed}
use Rattle.ml_game_check.proofs.FirstRules.{claimed_low}
use Rattle.ml_game_check.proofs.OfSolutions.{same_move, same_number}
use Rattle.ml_game_check.proofs.Won.{right_are_won}
use Rattle.ml_tangles.specs.private.Claimed.{AreClaimsOf, IsFilledAt, Solves}

module _ (g : ParityGame) (ws : List Player) (xs : List ℕ) (cs : Claims) (of : AreClaimsOf ws xs cs) where
  makes : (p : Player) → Makes g cs p (choice_at xs)
  makes p v w own moved =
      let low : v < length ws = omega (arith, claimed_low cs p v (Some w, moved), of.many) in
      same_number (choice_at xs v) w (same_move (winner_at ws v) p (Some (choice_at xs v)) (Some w) (sym (of.at v low) ∙ moved))

  pub right_solve : IsGame g → length ws ≡ size g → length xs ≡ size g
      → ((v : ℕ) → v < size g → IsFilledAt g ws xs v)
      → AreRight g cs
      → Solves g ws xs
  right_solve ok winners choices filled right = (
    record {
      winners = winners;
      choices = choices;
      strategies = λ p v low own. (filled v low).moves;
      right = λ v low. (right_are_won g cs ok right (winner_at ws v) v low (claimed v low)).0;
      wins = λ v low. (right_are_won g cs ok right (winner_at ws v) v low (claimed v low)).1 (choice_at xs) (makes (winner_at ws v));
    },
    λ v low other. (filled v low).first other,
  )
    where
      claimed : (v : ℕ) → v < size g → IsClaimed cs (winner_at ws v) v
      claimed v low = (Some (choice_at xs v), of.at v (omega (arith, low, winners)))
