-- Rounds of a game that follow a strategy, through vertices of two kinds in turn.
--
--   IsRound     == moves lead from one place to another, with the lowest priority on the way
--   round_from  == there is a round from each place on
--   won_at      == a strategy that wins from the first vertex wins from each
use Rattle.std.proofs.Common.{ℕ, zero, suc, ◌≡◌, ◌+◌, ◌<◌, ◌≤◌, min, ◌⊎◌, inl, inr, ⊎_elim, arith}
use Rattle.std.proofs.Common.{ap, ◌∙◌, subst}
use Rattle.std.proofs.lemmas.Bool.{cases_lt}
use Rattle.ml_parity.specs.declared.players.Player.{Player}
use Rattle.ml_parity.specs.Game.{ParityGame, priority_of}
use Rattle.ml_parity.specs.Winner.{WinsFrom}
use Rattle.ml_parity.proofs.FollowedWalks.{FollowedMove, FollowedWalk, last, before, walks_joined, won_behind}

-- the lowest priority on the way from place i to place j: the neutral one, or that of a letter
pub record IsRound (g : ParityGame) (p : Player) (s b pr : ℕ → ℕ) (neutral i j : ℕ) : Type 0 where
  pub lowest : ℕ
  pub walk : FollowedWalk g p s (b i) lowest (b j)
  pub below_neutral : lowest ≤ neutral
  pub below : (k : ℕ) → i ≤ k → k < j → lowest ≤ pr k
  pub is_one : (lowest ≡ neutral) ⊎ ((k : ℕ) × (i ≤ k) × (k < j) × (lowest ≡ pr k))

module _ (g : ParityGame) (p : Player) (s a b pr : ℕ → ℕ) (neutral len : ℕ)
    (to_known : (k : ℕ) → k ≤ len → FollowedMove g p s (a k) (b k))
    (to_state : (k : ℕ) → k < len → FollowedMove g p s (b k) (a (suc k)))
    (known_priority : (k : ℕ) → k < len → priority_of g (b k) ≡ neutral)
    (state_priority : (k : ℕ) → k < len → priority_of g (a (suc k)) ≡ pr k) where
  one_letter : (i : ℕ) → i < len → IsRound g p s b pr neutral i (suc i)
  one_letter i low = record {
    lowest = min neutral (pr i);
    walk =
        subst (λ k. FollowedWalk g p s (b i) k (b (suc i)))
        (ap (λ k. min k (priority_of g (a (suc i)))) (known_priority i low) ∙ ap (min neutral) (state_priority i low))
        (before (b i) (a (suc i)) (to_state i low)
        (last (a (suc i)) (b (suc i)) (to_known (suc i) (omega (arith, low)))));
    below_neutral = omega arith;
    below = λ k from to.
        let same : k ≡ i = omega (arith, from, to) in
        let value = ap pr same in
        omega (arith, value);
    is_one = ⊎_elim
        (λ (less : pr i < neutral). inr (i, omega arith, omega arith, omega (arith, less)))
        (λ (more : neutral ≤ pr i). inl (omega (arith, more)))
        (cases_lt (pr i) neutral);
  }

  joined : (i j k : ℕ) → i ≤ j → j ≤ k
      → IsRound g p s b pr neutral i j
      → IsRound g p s b pr neutral j k
      → IsRound g p s b pr neutral i k
  joined i j k first second r t = record {
    lowest = min r.lowest t.lowest;
    walk = walks_joined g p s (b i) r.lowest (b j) t.lowest (b k) r.walk t.walk;
    below_neutral = omega (arith, r.below_neutral);
    below = λ n from to.
        ⊎_elim
        (λ (here : n < j). omega (arith, r.below n from here))
        (λ (there : j ≤ n). omega (arith, t.below n there to))
        (cases_lt n j);
    is_one = ⊎_elim
        (λ (less : r.lowest < t.lowest). widen i j i k (omega arith) second r.lowest (omega (arith, less)) r.is_one)
        (λ (more : t.lowest ≤ r.lowest). widen j k i k first (omega arith) t.lowest (omega (arith, more)) t.is_one)
        (cases_lt r.lowest t.lowest);
  }
    where
      widen : (i j h k : ℕ) → h ≤ i → j ≤ k → (l : ℕ)
          → min r.lowest t.lowest ≡ l
          → (l ≡ neutral) ⊎ ((n : ℕ) × (i ≤ n) × (n < j) × (l ≡ pr n))
          → (min r.lowest t.lowest ≡ neutral) ⊎ ((n : ℕ) × (h ≤ n) × (n < k) × (min r.lowest t.lowest ≡ pr n))
      widen i j h k lower higher l same (inl is) = inl (same ∙ is)
      widen i j h k lower higher l same (inr is) =
          inr (is.0, omega (arith, lower, is.1), omega (arith, higher, is.2), same ∙ is.3)

  -- from place i on, over so many letters and one more
  pub round_from : (i d : ℕ) → i + suc d ≤ len → IsRound g p s b pr neutral i (i + suc d)
  round_from i zero fits =
      let e : suc i ≡ i + 1 = omega arith in
      subst (IsRound g p s b pr neutral i) e (one_letter i (omega (arith, fits)))
  round_from i (suc d) fits =
      let e : suc (i + suc d) ≡ i + suc (suc d) = omega arith in
      subst (IsRound g p s b pr neutral i) e
      (joined i (i + suc d) (suc (i + suc d)) (omega arith) (omega arith) (round_from i d (omega (arith, fits)))
      (one_letter (i + suc d) (omega (arith, fits))))

  -- a strategy that wins from the first vertex wins from each
  pub won_at : WinsFrom g p s (a 0) → (k : ℕ) → k ≤ len → WinsFrom g p s (a k)
  won_at wins zero low = wins
  won_at wins (suc k) low =
      won_behind g p s (b k) (a (suc k)) (to_state k (omega (arith, low)))
      (won_behind g p s (a k) (b k) (to_known k (omega (arith, low))) (won_at wins k (omega (arith, low))))
