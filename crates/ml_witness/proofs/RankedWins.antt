-- Vertices from which Even wins, told by ranks.
--
-- A set of vertices is given, with a rank for each vertex. From a vertex of the set that Even owns some move leads into the
-- set, from one of Odd's each move does; and along these moves the rank doesn't rise, and falls where the vertex that is left
-- has an odd priority, unless that has the priority 0. Then Even wins each vertex of the set: were the lowest priority on the
-- loop of a play odd, the rank would never rise along the loop, and would fall where that priority is met.
--
--   Falls     == the step from a vertex to another one is as it should be
--   even_wins == the theorem
use Rattle.std.proofs.Common.{ℕ, ◌≡◌, ◌+◌, ◌-◌, ◌<◌, ◌≤◌, ◌%◌, ◌⊎◌, length, get_or, inl, inr, sym, ap, ◌∙◌, subst, cond, eqb, arith}
use Rattle.ml_lists.specs.Lasso.{Lasso, round, lowest_on_loop}
use Rattle.ml_lists.proofs.Decided.{Decided}
use Rattle.ml_lists.proofs.Lasso.{LowestOnLoop, lasso_keeps, loop_closed, loop_length, lowest_on_loop_le, lowest_on_loop_place, on_loop, on_loop-entry, round-entry}
use Rattle.ml_lists.proofs.Loops.{loop_is_flat}
use Rattle.ml_lists.proofs.Member.{place-member}
use Rattle.ml_lists.proofs.Members.{contains_of_member}
use Rattle.ml_parity.specs.declared.players.Player.TheVariants.{Even, Odd}
use Rattle.ml_parity.specs.Game.{ParityGame, IsGame, HasMove, moves_of, owner_of, priority_of, size}
use Rattle.ml_parity.specs.Player.{side}
use Rattle.ml_parity.specs.Winner.{Follows, IsPlay, IsStrategyOf, Wins, winner}
use Rattle.ml_parity.proofs.Opponents.{cases_player}

-- the rank doesn't rise, and falls where the priority is odd, unless that is 0
abbrev pub Falls : ParityGame → (ℕ → ℕ) → ℕ → ℕ → Type 0
Falls g rank v w =
    (priority_of g v ≡ 0) ⊎ ((rank w ≤ rank v) × ((priority_of g v % 2 ≡ 0) ⊎ (rank w < rank v)))

-- a move of Even's into the set
pub record GoodMove (g : ParityGame) (C : ℕ → Type 0) (rank : ℕ → ℕ) (v : ℕ) : Type 0 where
  pub to : ℕ
  pub move : HasMove g v to
  pub inside : C to
  pub falls : Falls g rank v to

odd_side : (n : ℕ) → side n ≡ Odd → n % 2 ≡ 0 → ⊥
odd_side n odd even = let e : side n ≡ Even = ap (λ k. cond (eqb k 0) Even Odd) even in absurd (cc)

-- where no priority is below an odd one
never_up : (p d r q : ℕ) → side d ≡ Odd → d ≤ p → (p ≡ 0) ⊎ ((q ≤ r) × ((p % 2 ≡ 0) ⊎ (q < r))) → q ≤ r
never_up p d r q odd low (inl none) =
    let zero_d : d ≡ 0 = omega arith in
    absurd (odd_side d odd (ap (λ k. k % 2) zero_d))
never_up p d r q odd low (inr falls) = falls.0

down : (p r q : ℕ) → side p ≡ Odd → (p ≡ 0) ⊎ ((q ≤ r) × ((p % 2 ≡ 0) ⊎ (q < r))) → q < r
down p r q odd (inl none) = absurd (odd_side p odd (ap (λ k. k % 2) none))
down p r q odd (inr (le, inl even)) = absurd (odd_side p odd even)
down p r q odd (inr (le, inr less)) = less

module _ (g : ParityGame) (ok : IsGame g) (C : ℕ → Type 0) (rank : ℕ → ℕ)
    (decided : (v : ℕ) → Decided (C v))
    (own : (v : ℕ) → C v → owner_of g v ≡ Even → GoodMove g C rank v)
    (other : (v : ℕ) → C v → owner_of g v ≡ Odd → (w : ℕ) → HasMove g v w → C w × Falls g rank v w) where
  first_move : ℕ → ℕ
  first_move v = get_or (moves_of g v) 0 0

  -- the good move from a vertex of the set, and else the first one
  chosen : (v : ℕ) → Decided (C v) → (owner_of g v ≡ Even) ⊎ (owner_of g v ≡ Odd) → ℕ
  chosen v (inl inside) (inl even) = (own v inside even).to
  chosen v (inl inside) (inr odd) = first_move v
  chosen v (inr outside) o = first_move v

  strategy : ℕ → ℕ
  strategy v = chosen v (decided v) (cases_player (owner_of g v) Even)

  has_first : (v : ℕ) → v < size g → HasMove g v (first_move v)
  unfolding first_move
  has_first v low =
      contains_of_member (get_or (moves_of g v) 0 0) (moves_of g v) (place-member (moves_of g v) 0 0 (ok.goes_on v low))

  chosen_move : (v : ℕ) → v < size g → (d : Decided (C v)) → (o : (owner_of g v ≡ Even) ⊎ (owner_of g v ≡ Odd))
      → HasMove g v (chosen v d o)
  unfolding chosen
  chosen_move v low (inl inside) (inl even) = (own v inside even).move
  chosen_move v low (inl inside) (inr odd) = has_first v low
  chosen_move v low (inr outside) o = has_first v low

  is_strategy : IsStrategyOf g Even strategy
  unfolding strategy
  is_strategy v low even = chosen_move v low (decided v) (cases_player (owner_of g v) Even)

  -- the move that is chosen at a vertex of the set that Even owns
  chosen_good : (v w : ℕ) → C v → owner_of g v ≡ Even → (d : Decided (C v))
      → (o : (owner_of g v ≡ Even) ⊎ (owner_of g v ≡ Odd)) → w ≡ chosen v d o → C w × Falls g rank v w
  unfolding chosen
  chosen_good v w inside even (inl here) (inl e) same =
      let good = own v here e in
      (subst C (sym same) good.inside, subst (Falls g rank v) (sym same) good.falls)
  chosen_good v w inside even (inl here) (inr odd) same = let wrong : Even ≡ Odd = sym even ∙ odd in absurd (cc)
  chosen_good v w inside even (inr outside) o same = absurd (outside inside)

  module _ (l : Lasso) (play : IsPlay g l) (follows : Follows g Even strategy l) where
    step : (k : ℕ) → k < length l.entries → C (get_or (round l) k 0)
        → C (get_or (round l) (k + 1) 0) × Falls g rank (get_or (round l) k 0) (get_or (round l) (k + 1) 0)
    unfolding strategy
    step k low inside = by_owner (cases_player (owner_of g v) Even)
      where
        v : ℕ
        v = get_or (round l) k 0

        by_owner : (owner_of g v ≡ Even) ⊎ (owner_of g v ≡ Odd)
            → C (get_or (round l) (k + 1) 0) × Falls g rank v (get_or (round l) (k + 1) 0)
        by_owner (inl even) =
            chosen_good v (get_or (round l) (k + 1) 0) inside even (decided v) (cases_player (owner_of g v) Even)
            (follows k low even)
        by_owner (inr odd) = other v inside odd (get_or (round l) (k + 1) 0) (play.joined k low)

    module _ (begins : C (get_or (round l) 0 0)) where
      inside_at : (k : ℕ) → k ≤ length l.entries → C (get_or (round l) k 0)
      inside_at = lasso_keeps l C (λ k low inside. (step k low inside).0) begins

      falls_at : (k : ℕ) → k < length l.entries → Falls g rank (get_or (round l) k 0) (get_or (round l) (k + 1) 0)
      falls_at k low = (step k low (inside_at k (omega arith))).1

      wins : winner g l ≡ Even
      wins = by_side (cases_player (winner g l) Even) (lowest_on_loop_place (priority_of g) l play.starts)
        where
          by_side : (winner g l ≡ Even) ⊎ (winner g l ≡ Odd) → LowestOnLoop (priority_of g) l → winner g l ≡ Even
          by_side (inl even) place = even
          by_side (inr odd) place =
              absurd
              (loop_is_flat (λ k. rank (on_loop l k)) (loop_length l) (ap rank (loop_closed l play.starts)) up
              (place.place - l.start) (omega (arith, place.later, place.below)) falls)
            where
              d : ℕ
              d = lowest_on_loop (priority_of g) l

              next : (k : ℕ) → get_or (round l) (l.start + k + 1) 0 ≡ on_loop l (k + 1)
              next k = let e : l.start + k + 1 ≡ l.start + (k + 1) = omega arith in ap (λ i. get_or (round l) i 0) e

              at : (k : ℕ) → k < loop_length l → Falls g rank (on_loop l k) (on_loop l (k + 1))
              at k low = subst (Falls g rank (on_loop l k)) (next k) (falls_at (l.start + k) (omega (arith, low)))

              high : (k : ℕ) → k < loop_length l → d ≤ priority_of g (on_loop l k)
              high k low =
                  subst (λ v. d ≤ priority_of g v) (sym (round-entry l (l.start + k) (omega (arith, low))))
                  (lowest_on_loop_le (priority_of g) l (l.start + k) (omega arith) (omega (arith, low)))

              up : (k : ℕ) → k < loop_length l → rank (on_loop l (k + 1)) ≤ rank (on_loop l k)
              up k low =
                  never_up (priority_of g (on_loop l k)) d (rank (on_loop l k)) (rank (on_loop l (k + 1))) odd
                  (high k low) (at k low)

              falls : rank (on_loop l (place.place - l.start + 1)) < rank (on_loop l (place.place - l.start))
              falls =
                  let here : priority_of g (on_loop l (place.place - l.start)) ≡ d =
                  ap (priority_of g) (on_loop-entry l place.place place.later place.below) ∙ place.holds in
                  down (priority_of g (on_loop l (place.place - l.start))) (rank (on_loop l (place.place - l.start)))
                  (rank (on_loop l (place.place - l.start + 1))) (ap side here ∙ odd)
                  (at (place.place - l.start) (omega (arith, place.later, place.below)))

  -- Even wins each vertex of the set
  pub even_wins : (v : ℕ) → C v → Wins g Even v
  even_wins v inside = record {
    strategy = strategy;
    is_strategy = is_strategy;
    wins = λ l play begins follows.
        wins l play follows (subst C (sym (round-entry l 0 (omega (arith, play.starts)) ∙ begins)) inside);
  }
