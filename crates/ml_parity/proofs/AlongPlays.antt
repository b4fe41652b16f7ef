-- Winning is kept along plays that follow the strategy.
--
-- A strategy that wins from a vertex wins from each vertex that a play which follows it may come to: a play from there
-- becomes a play from the first vertex by one more vertex in front, and its loop stays.
--
--   kept_by_move   == a strategy that wins from v wins from where a move that respects it leads
--   kept_along     == it wins from each vertex of a play from v that follows it
--   won_along      == each vertex of such a play is won by that player
use Rattle.std.proofs.Common.{ℕ, zero, suc, ◌≡◌, ◌+◌, ◌≤◌, arith, subst, sym, ◌∙◌, refl, length, get_or, ◌∷◌}
use Rattle.ml_lists.specs.Lasso.{Lasso, entry, round}
use Rattle.ml_lists.proofs.Lasso.{round-entry, lasso_keeps, prepend, prepend_is}
use Rattle.ml_parity.specs.declared.players.Player.{Player}
use Rattle.ml_parity.specs.Game.{ParityGame, HasMove, owner_of}
use Rattle.ml_parity.specs.Winner.{IsPlay, Follows, WinsFrom, Wins}

-- a strategy that wins from v wins from where a move that respects it leads
pub kept_by_move : (g : ParityGame) (p : Player) (s : ℕ → ℕ) (v w : ℕ) → WinsFrom g p s v → HasMove g v w
    → (owner_of g v ≡ p → w ≡ s v) → WinsFrom g p s w
kept_by_move g p s v w wins move chosen l play begins follows =
    wins (prepend v l) (prepend_is (HasMove g) v l play (subst (HasMove g v) (sym begins) move)) refl longer
  where
    longer : Follows g p s (prepend v l)
    longer zero low own = round-entry l 0 (omega (arith, play.starts)) ∙ begins ∙ chosen own
    longer (suc k) low own =
        let e : suc (k + 1) ≡ suc k + 1 = omega arith in
        subst (λ i. get_or (v ∷ round l) i 0 ≡ s (get_or (round l) k 0)) e (follows k (omega arith) own)

-- it wins from each vertex of a play from v that follows it
pub kept_along : (g : ParityGame) (p : Player) (s : ℕ → ℕ) (v : ℕ) → WinsFrom g p s v → (l : Lasso) → IsPlay g l
    → entry l 0 ≡ v → Follows g p s l → (k : ℕ) → k ≤ length l.entries → WinsFrom g p s (get_or (round l) k 0)
kept_along g p s v wins l play begins follows =
    lasso_keeps l (WinsFrom g p s)
    (λ k low here. kept_by_move g p s (get_or (round l) k 0) (get_or (round l) (k + 1) 0) here (play.joined k low)
    (follows k low))
    (subst (WinsFrom g p s) (sym (round-entry l 0 (omega (arith, play.starts)) ∙ begins)) wins)

-- each vertex of such a play is won by that player
pub won_along : (g : ParityGame) (p : Player) (v : ℕ) (a : Wins g p v) (l : Lasso) → IsPlay g l → entry l 0 ≡ v
    → Follows g p a.strategy l → (k : ℕ) → k ≤ length l.entries → Wins g p (get_or (round l) k 0)
won_along g p v a l play begins follows k low = record {
  strategy = a.strategy;
  is_strategy = a.is_strategy;
  wins = kept_along g p a.strategy v a.wins l play begins follows k low;
}
