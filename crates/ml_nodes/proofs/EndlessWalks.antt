-- Walks that follow a strategy and go on for ever.
--
-- Where a strategy wins, no situation can be left by a walk that follows it to a next situation, for ever, if the
-- lowest priority of each closed walk of these is bad for its player: there are finitely many vertices, so one comes
-- again.
--
--   Join Q           == what is known of two walks, the second one from where the first one ends, is known of both together
--   Onward           == a walk from the vertex of a situation to that of a next one; Q is what is known of it
--   never_for_ever   == the strategy doesn't win from such a situation
use Rattle.std.proofs.Common.{ℕ, zero, suc, ◌≡◌, ◌<◌, min, ⊎_elim, sym, subst, arith}
use Rattle.std.proofs.lemmas.Bool.{cases_eq}
use Rattle.ml_lists.specs.Walk.{walk}
use Rattle.ml_lists.specs.Pigeons.{Twice}
use Rattle.ml_lists.proofs.Pigeons.{pigeons}
use Rattle.ml_parity.specs.declared.players.Player.{Player}
use Rattle.ml_parity.specs.Player.{opponent, side}
use Rattle.ml_parity.specs.Game.{ParityGame, size}
use Rattle.ml_parity.specs.Winner.{WinsFrom}
use Rattle.ml_parity.proofs.FollowedWalks.{FollowedWalk, walks_joined, won_at_end, closed_walk_good}
use Rattle.ml_parity.proofs.Opponents.{not_both}

abbrev pub Join : (ℕ → ℕ → ℕ → Type 0) → Type 0
Join Q = (v j w k x : ℕ) → Q v j w → Q w k x → Q v (min j k) x

-- a walk from v to w, of which Q is known
pub record Stretch (g : ParityGame) (p : Player) (s : ℕ → ℕ) (Q : ℕ → ℕ → ℕ → Type 0) (v w : ℕ) : Type 0 where
  pub lowest : ℕ
  pub way : FollowedWalk g p s v lowest w
  pub known : Q v lowest w

pub record Onward (g : ParityGame) (p : Player) (s : ℕ → ℕ) (Q : ℕ → ℕ → ℕ → Type 0) (S : Type 0) (vertex : S → ℕ)
    (x : S) : Type 0 where
  pub to : S
  pub stretch : Stretch g p s Q (vertex x) (vertex to)

module _ (g : ParityGame) (p : Player) (s : ℕ → ℕ) (Q : ℕ → ℕ → ℕ → Type 0) (S : Type 0) (vertex : S → ℕ)
    (below : (x : S) → vertex x < size g)
    (joined : Join Q)
    (bad : (v k : ℕ) → Q v k v → side k ≡ opponent p)
    (next : (x : S) → Onward g p s Q S vertex x) where
  abbrev at : S → ℕ → S
  at x k = walk (λ y. (next y).to) x k

  both : (u v w : ℕ) → Stretch g p s Q u v → Stretch g p s Q v w → Stretch g p s Q u w
  both u v w a b = record {
    lowest = min a.lowest b.lowest;
    way = walks_joined g p s u a.lowest v b.lowest w a.way b.way;
    known = joined u a.lowest v b.lowest w a.known b.known;
  }

  between : (x : S) (i j : ℕ) → i < j → Stretch g p s Q (vertex (at x i)) (vertex (at x j))
  between x i zero less = absurd (omega arith)
  between x i (suc j) less =
      ⊎_elim
      (λ (same : i ≡ j). subst (λ n. Stretch g p s Q (vertex (at x n)) (vertex (at x (suc j)))) (sym same)
      (next (at x j)).stretch)
      (λ (apart : i ≡ j → ⊥). both (vertex (at x i)) (vertex (at x j)) (vertex (at x (suc j)))
      (between x i j (omega arith)) (next (at x j)).stretch)
      (cases_eq i j)

  wins_on : (x : S) (k : ℕ) → WinsFrom g p s (vertex x) → WinsFrom g p s (vertex (at x k))
  wins_on x zero wins = wins
  wins_on x (suc k) wins =
      let a = (next (at x k)).stretch in
      won_at_end g p s (vertex (at x k)) a.lowest (vertex (at x (suc k))) a.way (wins_on x k wins)

  pub never_for_ever : (x : S) → WinsFrom g p s (vertex x) → ⊥
  never_for_ever x wins = from (pigeons (size g) (λ k. vertex (at x k)) (λ k low. below (at x k)))
    where
      from : Twice (λ k. vertex (at x k)) (size g) → ⊥
      from t =
          let v : ℕ = vertex (at x t.first) in
          let closed : Stretch g p s Q v v =
          subst (Stretch g p s Q v) (sym t.same) (between x t.first t.second t.apart) in
          not_both (side closed.lowest) p (closed_walk_good g p s v closed.lowest closed.way (wins_on x t.first wins))
          (bad v closed.lowest closed.known)
