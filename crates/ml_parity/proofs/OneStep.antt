-- The one-step law: who wins a vertex is told by who wins its successors.
--
--   WinningMove g p v  == some successor of v is won by p
--   own_vertex_won     == p wins a vertex of p's own exactly if p wins some successor
--   other_vertex_won   == p wins a vertex of the opponent's exactly if p wins every successor
use Rattle.std.proofs.Common.{ℕ, ◌≡◌, ◌<◌, ◌⊎◌, inl, inr, ◌↔◌, subst, sym, ◌∙◌}
use Rattle.ml_parity.specs.declared.players.Player.{Player}
use Rattle.ml_parity.specs.Player.{opponent}
use Rattle.ml_parity.specs.Game.{ParityGame, IsGame, HasMove, owner_of, size}
use Rattle.ml_parity.specs.Winner.{Wins}
use Rattle.ml_parity.specs.private.Sinks.{Holds}
use Rattle.ml_parity.specs.private.SinkGame.{board_of}
use Rattle.ml_parity.proofs.Opponents.{cases_player, opponent-opponent, not_both}
use Rattle.ml_parity.proofs.Winners.{Winners, winners, won}

-- some successor of v is won by p
pub record WinningMove (g : ParityGame) (p : Player) (v : ℕ) : Type 0 where
  pub to : ℕ
  pub move : HasMove g v to
  pub wins : Wins g p to

-- the winner of a vertex keeps to where that player wins
kept_by : (g : ParityGame) (w : Winners g) (p : Player) (v : ℕ) → v < size g → w.win v ≡ p
    → Holds (board_of g) w.win p (w.choice v) v
kept_by g w p v low is = subst (λ q. Holds (board_of g) w.win q (w.choice v) v) is (w.keeps v low)

-- p wins a vertex of p's own exactly if p wins some successor
pub own_vertex_won : (g : ParityGame) → IsGame g → (p : Player) (v : ℕ) → v < size g → owner_of g v ≡ p
    → Wins g p v ↔ WinningMove g p v
own_vertex_won g ok p v low own = (there, back)
  where
    w : Winners g
    w = winners g ok

    there : Wins g p v → WinningMove g p v
    there a =
        let good = (kept_by g w p v low (w.only v p low a)).own own in
        record {
          to = w.choice v;
          move = good.move;
          wins = won g w p (w.choice v) (ok.in_range v (w.choice v) good.move) good.wins;
        }

    back : WinningMove g p v → Wins g p v
    back m = by_case (cases_player (w.win v) p)
      where
        by_case : (w.win v ≡ p) ⊎ (w.win v ≡ opponent p) → Wins g p v
        by_case (inl mine) = won g w p v low mine
        by_case (inr lost) =
            let to_lost = (kept_by g w (opponent p) v low lost).other (own ∙ sym (opponent-opponent p)) m.to m.move in
            absurd (not_both (w.win m.to) p (w.only m.to p (ok.in_range v m.to m.move) m.wins) to_lost)

-- p wins a vertex of the opponent's exactly if p wins every successor
pub other_vertex_won : (g : ParityGame) → IsGame g → (p : Player) (v : ℕ) → v < size g → owner_of g v ≡ opponent p
    → Wins g p v ↔ ((x : ℕ) → HasMove g v x → Wins g p x)
other_vertex_won g ok p v low own = (there, back)
  where
    w : Winners g
    w = winners g ok

    there : Wins g p v → (x : ℕ) → HasMove g v x → Wins g p x
    there a x move = won g w p x (ok.in_range v x move) ((kept_by g w p v low (w.only v p low a)).other own x move)

    back : ((x : ℕ) → HasMove g v x → Wins g p x) → Wins g p v
    back every = by_case (cases_player (w.win v) p)
      where
        by_case : (w.win v ≡ p) ⊎ (w.win v ≡ opponent p) → Wins g p v
        by_case (inl mine) = won g w p v low mine
        by_case (inr lost) =
            let good = (kept_by g w (opponent p) v low lost).own own in
            absurd (not_both (w.win (w.choice v)) p (w.only (w.choice v) p (ok.in_range v (w.choice v) good.move)
            (every (w.choice v) good.move)) good.wins)
