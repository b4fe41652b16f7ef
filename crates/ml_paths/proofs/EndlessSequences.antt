-- The endless sequence of a lasso.
--
--   unrolled_front    == it begins with the entries of the lasso
--   unrolled_period   == from the loop start on, the length of the loop is a period of it
--   unrolled_is       == and so it is each sequence of which both are true
--   alike_is_lasso    == lassos for the same endless sequence are lassos of the same relations
use Rattle.std.proofs.Common.{ℕ, zero, suc, ◌≡◌, ◌+◌, ◌-◌, ◌<◌, ◌≤◌, ◌⊎◌, inl, inr, ltb, arith, refl, length, get_or, subst₂, sym, ap, ◌∙◌, lt-ltb, le-ltb}
use Rattle.std.proofs.lemmas.Bool.{cases_eq, cases_lt, cond-true, cond-false}
use Rattle.ml_lists.proofs.Walks.{walk-sum}
use Rattle.ml_lists.specs.Lasso.{IsLassoOf, Lasso, entry, next_place, round, unrolled}
use Rattle.ml_lists.specs.Walk.{walk}
use Rattle.ml_lists.proofs.Lasso.{loop_length, round-end, round-entry}
use Rattle.ml_lists.proofs.Unrolling.{unrolled_step}
use Rattle.ml_paths.specs.Shortest.{UnrollAlike}
use Rattle.ml_paths.specs.private.Shortening.{IsPeriodFrom}

module _ (l : Lasso) (starts : l.start < length l.entries) where
  -- the first steps lead from each place to the next one
  walk_front : (k : ℕ) → k < length l.entries → walk (next_place l) 0 k ≡ k
  walk_front zero low = refl
  walk_front (suc k) low =
      ap (next_place l) (walk_front k (omega (arith, low)))
      ∙ cond-true (ltb (suc k) (length l.entries)) (suc k) l.start (lt-ltb (suc k) (length l.entries) low)

  pub unrolled_front : (k : ℕ) → k < length l.entries → unrolled l k ≡ entry l k
  unrolled_front k low = ap (entry l) (walk_front k low)

  -- as many steps as there are entries lead to the loop start
  walk_back : (n : ℕ) → n ≡ length l.entries → walk (next_place l) 0 n ≡ l.start
  walk_back zero none = absurd (omega (arith, none, starts))
  walk_back (suc k) all =
      ap (next_place l) (walk_front k (omega (arith, all)))
      ∙ cond-false (ltb (suc k) (length l.entries)) (suc k) l.start (le-ltb (suc k) (length l.entries) (omega (arith, all)))

  walk_again : (k : ℕ) → l.start ≤ k → walk (next_place l) 0 (k + loop_length l) ≡ walk (next_place l) 0 k
  walk_again k late =
      let whole : k + loop_length l ≡ length l.entries + (k - l.start) = omega (arith, late, starts) in
      let part : l.start + (k - l.start) ≡ k = omega (arith, late) in
      ap (walk (next_place l) 0) whole
      ∙ sym (walk-sum (next_place l) 0 (length l.entries) (k - l.start))
      ∙ ap (λ x. walk (next_place l) x (k - l.start))
      (walk_back (length l.entries) refl ∙ sym (walk_front l.start starts))
      ∙ walk-sum (next_place l) 0 l.start (k - l.start)
      ∙ ap (walk (next_place l) 0) part

  pub unrolled_period : IsPeriodFrom (unrolled l) l.start (loop_length l)
  unrolled_period k late = ap (entry l) (walk_again k late)

  module _ (c : ℕ → ℕ) (front : (k : ℕ) → k < length l.entries → c k ≡ entry l k)
      (period : IsPeriodFrom c l.start (loop_length l)) where
    is_below : (n k : ℕ) → k < n → c k ≡ unrolled l k
    is_below zero k low = absurd (omega (arith, low))
    is_below (suc n) k low = by_place (cases_lt k (length l.entries)) (is_below n)
      where
        by_place : (k < length l.entries) ⊎ (length l.entries ≤ k) → ((k : ℕ) → k < n → c k ≡ unrolled l k)
            → c k ≡ unrolled l k
        by_place (inl inside) before = front k inside ∙ sym (unrolled_front k inside)
        by_place (inr behind) before =
            let back : (k - loop_length l) + loop_length l ≡ k = omega (arith, behind, starts) in
            ap c (sym back)
            ∙ period (k - loop_length l) (omega (arith, behind, starts))
            ∙ before (k - loop_length l) (omega (arith, behind, starts, low))
            ∙ sym (unrolled_period (k - loop_length l) (omega (arith, behind, starts)))
            ∙ ap (unrolled l) back

    pub unrolled_is : (k : ℕ) → c k ≡ unrolled l k
    unrolled_is k = is_below (suc k) k (omega arith)

  -- the entries of the round are the first ones of the sequence
  round_front : (k : ℕ) → k ≤ length l.entries → get_or (round l) k 0 ≡ unrolled l k
  round_front k low = by_case (cases_eq k (length l.entries))
    where
      by_case : (k ≡ length l.entries) ⊎ (k ≡ length l.entries → ⊥) → get_or (round l) k 0 ≡ unrolled l k
      by_case (inl last) = round-end l k last ∙ ap (entry l) (sym (walk_back k last))
      by_case (inr other) =
          let inside : k < length l.entries = omega (arith, low, other) in
          round-entry l k inside ∙ sym (unrolled_front k inside)

  -- lassos for the same endless sequence are lassos of the same relations
  pub alike_is_lasso : (R : ℕ → ℕ → Type 0) (k : Lasso) → IsLassoOf R k → UnrollAlike l k → IsLassoOf R l
  alike_is_lasso R k is alike = record {
    starts = starts;
    joined = λ i low.
        subst₂ R (sym (round_front i (omega (arith, low)) ∙ alike i))
        (sym (round_front (i + 1) (omega (arith, low)) ∙ alike (i + 1))) (unrolled_step R k is i);
  }
