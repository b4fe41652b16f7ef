-- A player has one least measure, and both tell one solution, but for the moves where the owner doesn't win.
--
--   one_least    == two least measures are one
--   one_measured == they tell the same winners, and the same moves where the owner wins
use Rattle.std.proofs.Common.{ℕ, ◌≡◌, ◌<◌, ◌⊎◌, inl, inr, List, length, get_or, Option, Some, None, refl, sym, ap, ◌∙◌, subst, arith}
use Rattle.std.proofs.lemmas.List.{ext_get_or}
use Rattle.ml_lists.proofs.Search.{first_unique}
use Rattle.ml_parity.specs.declared.players.Player.{Player}
use Rattle.ml_parity.specs.declared.players.Player.TheVariants.{Even, Odd}
use Rattle.ml_parity.specs.Game.{ParityGame, moves_of, owner_of, size}
use Rattle.ml_parity.specs.Solution.{winner_at, choice_at}
use Rattle.ml_progress.specs.Law.{OneLeastMeasure, OneMeasured, TellsTheSame}
use Rattle.ml_progress.specs.Measure.{HasList, IsBelow, IsLeastMeasure, Measure, Progresses, measure_at}
use Rattle.ml_progress.specs.Measured.{IsFirstProgress, IsMeasured, MeasuredGame, measure_of}
use Rattle.ml_progress.proofs.Codes.{Less, compared, less_before}

-- neither is below the other
same_value : (n : ℕ) (a b : Option (List ℕ))
    → ((xs : List ℕ) → a ≡ Some xs → length xs ≡ n)
    → ((xs : List ℕ) → b ≡ Some xs → length xs ≡ n)
    → ¬ (IsBelow a b)
    → ¬ (IsBelow b a)
    → a ≡ b
same_value n None None long_a long_b up down = refl
same_value n None (Some ys) long_a long_b up down = absurd (down tt)
same_value n (Some xs) None long_a long_b up down = absurd (up tt)
same_value n (Some xs) (Some ys) long_a long_b up down =
    by (compared xs ys (long_a xs refl ∙ sym (long_b ys refl)))
  where
    by : Less xs ys ⊎ ((xs ≡ ys) ⊎ Less ys xs) → Some xs ≡ Some ys
    by (inl less) = absurd (up (less_before xs ys less))
    by (inr (inl same)) = ap Some same
    by (inr (inr less)) = absurd (down (less_before ys xs less))

pub one_least : OneLeastMeasure
one_least g p m n is_m is_n =
    ext_get_or None m n (is_m.progress.measure.vertices ∙ sym is_n.progress.measure.vertices)
    (λ v in_m.
    let low : v < size g = omega (arith, in_m, is_m.progress.measure.vertices) in
    same_value _ (measure_at m v) (measure_at n v)
    (λ xs is. (is_m.progress.measure.lists v xs low is).long)
    (λ xs is. (is_n.progress.measure.lists v xs low is).long)
    (is_n.least m is_m.progress v low) (is_m.least n is_n.progress v low))

module _ (g : ParityGame) (m n : MeasuredGame) (is_m : IsMeasured g m) (is_n : IsMeasured g n) where
  same_even : m.even ≡ n.even
  same_even = one_least g Even m.even n.even is_m.even is_n.even

  same_odd : m.odd ≡ n.odd
  same_odd = one_least g Odd m.odd n.odd is_m.odd is_n.odd

  same_measure : (p : Player) → measure_of m p ≡ measure_of n p
  same_measure Even = same_even
  same_measure Odd = same_odd

  same_winner : (v : ℕ) → v < size g → winner_at m.solution.winner v ≡ winner_at n.solution.winner v
  same_winner v low =
      let p = winner_at m.solution.winner v in
      sym ((is_n.told v p low).1 (subst (λ k. HasList k v) (same_measure p) ((is_m.told v p low).0 refl)))

  same_choice : (v : ℕ) → v < size g → owner_of g v ≡ winner_at m.solution.winner v
      → choice_at m.solution.choice v ≡ choice_at n.solution.choice v
  same_choice v low own =
      let p = owner_of g v in
      let to = choice_at m.solution.choice v in
      let first = subst (λ k. IsFirstProgress g p k v to) (same_measure p) (is_m.first v low own) in
      let other = is_n.first v low (own ∙ same_winner v low) in
      first.there
      ∙ ap (λ k. get_or (moves_of g v) k 0)
      (first_unique (λ k. Progresses g p (measure_of n p) v (get_or (moves_of g v) k 0)) (length (moves_of g v))
      first.place other.place first.first other.first)
      ∙ sym other.there

  tells_the_same : TellsTheSame g m n
  tells_the_same = record {
    even = same_even;
    odd = same_odd;
    winners = ext_get_or Even m.solution.winner n.solution.winner
        (is_m.solution.winners ∙ sym is_n.solution.winners)
        (λ v in_m. same_winner v (omega (arith, in_m, is_m.solution.winners)));
    moves = same_choice;
  }

pub one_measured : OneMeasured
one_measured = tells_the_same
