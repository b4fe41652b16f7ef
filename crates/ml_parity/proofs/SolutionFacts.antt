-- What a solution tells: its winners are the winners, and they are kept from move to move.
--
--   solution_winner  == a solution names p at a vertex exactly if p wins it
--   solution_wins_from == where a solution names p, its choices win for p
--   solution_own     == where it names the owner, it names the owner at the choice too
--   solution_other   == where it names the owner's opponent, it does so at every successor
--   solutions_agree  == two solutions of a game name the same winners
use Rattle.std.proofs.Common.{ℕ, ◌≡◌, ◌<◌, ⊎_elim, ◌↔◌, subst, refl}
use Rattle.ml_parity.specs.declared.players.Player.{Player}
use Rattle.ml_parity.specs.Player.{opponent}
use Rattle.ml_parity.specs.Game.{ParityGame, IsGame, HasMove, owner_of, size}
use Rattle.ml_parity.specs.Winner.{WinsFrom, Wins}
use Rattle.ml_parity.specs.Solution.{GameSolution, IsSolution, winner_at, choice_at}
use Rattle.ml_parity.proofs.Opponents.{cases_player}
use Rattle.ml_parity.proofs.Winners.{clash}
use Rattle.ml_parity.proofs.AlongPlays.{kept_by_move}
use Rattle.ml_parity.proofs.OneStep.{other_vertex_won}

module _ (g : ParityGame) (ok : IsGame g) (s : GameSolution) (solution : IsSolution g s) where
  -- a solution names p at a vertex exactly if p wins it
  pub solution_winner : (p : Player) (v : ℕ) → v < size g → Wins g p v ↔ (winner_at s.winner v ≡ p)
  solution_winner p v low = (there, (λ is. subst (λ q. Wins g q v) is (solution.right v low)))
    where
      there : Wins g p v → winner_at s.winner v ≡ p
      there a = ⊎_elim
          (λ (same : winner_at s.winner v ≡ p). same)
          (λ (other : winner_at s.winner v ≡ opponent p).
          absurd (clash g ok p v low a (subst (λ q. Wins g q v) other (solution.right v low))))
          (cases_player (winner_at s.winner v) p)

  -- where a solution names p, its choices win for p
  pub solution_wins_from : (p : Player) (v : ℕ) → v < size g → winner_at s.winner v ≡ p
      → WinsFrom g p (choice_at s.choice) v
  solution_wins_from p v low is = subst (λ q. WinsFrom g q (choice_at s.choice) v) is (solution.wins v low)

  -- where it names the owner, it names the owner at the choice too
  pub solution_own : (p : Player) (v : ℕ) → v < size g → owner_of g v ≡ p → winner_at s.winner v ≡ p
      → winner_at s.winner (choice_at s.choice v) ≡ p
  solution_own p v low own is =
      let move : HasMove g v (choice_at s.choice v) = solution.strategies p v low own in
      (solution_winner p (choice_at s.choice v) (ok.in_range v (choice_at s.choice v) move)).0 (record {
        strategy = choice_at s.choice;
        is_strategy = solution.strategies p;
        wins = kept_by_move g p (choice_at s.choice) v (choice_at s.choice v) (solution_wins_from p v low is) move
            (λ o. refl);
      })

  -- where it names the owner's opponent, it does so at every successor
  pub solution_other : (p : Player) (v : ℕ) → v < size g → owner_of g v ≡ opponent p → winner_at s.winner v ≡ p
      → (x : ℕ) → HasMove g v x → winner_at s.winner x ≡ p
  solution_other p v low own is x move =
      (solution_winner p x (ok.in_range v x move)).0
      ((other_vertex_won g ok p v low own).0 ((solution_winner p v low).1 is) x move)

-- two solutions of a game name the same winners
pub solutions_agree : (g : ParityGame) → IsGame g → (s t : GameSolution) → IsSolution g s → IsSolution g t → (v : ℕ)
    → v < size g → winner_at s.winner v ≡ winner_at t.winner v
solutions_agree g ok s t a b v low = (solution_winner g ok s a (winner_at t.winner v) v low).0 (b.right v low)
