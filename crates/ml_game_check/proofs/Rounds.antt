-- Walks that go round.
--
-- A walk of numbers below n comes back to a number within n steps, and goes round from then on.
--
--   Period, period   == how many steps lead round, from the step n on
--   Round            == a walk from x comes back to x, and f is nowhere lower
--   lowest_first, lowest_more == the lowest of no step, and of one step more
--   some_lowest      == some step of m is the lowest
--   lower_below      == the lower of two numbers is one of them
--   lowest_round     == from the lowest of n steps behind the first n steps on it does
use Rattle.std.proofs.Common.{ℕ, zero, suc, ◌≡◌, ◌+◌, ◌-◌, ◌<◌, ◌≤◌, ◌⊎◌, inl, inr, arith, refl, sym, ap, ◌∙◌, subst}
use Rattle.std.proofs.lemmas.Bool.{cases_lt}
use Rattle.ml_lists.specs.Pigeons.{Twice}
use Rattle.ml_lists.specs.Walk.{walk}
use Rattle.ml_lists.proofs.Pigeons.{pigeons}
use Rattle.ml_lists.proofs.Walks.{walk-add-one, walk-sum}
use Rattle.ml_game_check.specs.private.Cycles.{IsLower, IsLowestFrom, IsLowestTo}

pub record Period (c : ℕ → ℕ) (n : ℕ) : Type 0 where
  pub period : ℕ
  pub some : 0 < period
  pub short : period ≤ n
  pub again : (k : ℕ) → n ≤ k → c (k + period) ≡ c k

pub period : (next : ℕ → ℕ) (v n : ℕ) → ((k : ℕ) → walk next v k < n) → Period (walk next v) n
period next v n low = from (pigeons n (walk next v) (λ k within. low k))
  where
    from : Twice (walk next v) n → Period (walk next v) n
    from t = record {
      period = t.second - t.first;
      some = omega (arith, t.apart);
      short = omega (arith, t.within);
      again = again;
    }
      where
        again : (k : ℕ) → n ≤ k → walk next v (k + (t.second - t.first)) ≡ walk next v k
        again k late =
            let here : k + (t.second - t.first) ≡ t.second + (k - t.first) = omega (arith, t.apart, t.within) in
            let there : t.first + (k - t.first) ≡ k = omega (arith, t.apart, t.within) in
            ap (walk next v) here
            ∙ sym (walk-sum next v t.second (k - t.first))
            ∙ ap (λ x. walk next x (k - t.first)) (sym t.same)
            ∙ walk-sum next v t.first (k - t.first)
            ∙ ap (walk next v) there

-- a step behind the first n that gives the same as the step n + d, within one round
record Earlier (c : ℕ → ℕ) (n m d : ℕ) : Type 0 where
  pub step : ℕ
  pub below : step < m
  pub same : c (n + d) ≡ c (n + step)

earlier : (next : ℕ → ℕ) (v n : ℕ) (p : Period (walk next v) n) (d : ℕ) → Earlier (walk next v) n p.period d
earlier next v n p zero = record { step = 0; below = p.some; same = refl }
earlier next v n p (suc d) = further (earlier next v n p d)
  where
    further : Earlier (walk next v) n p.period d → Earlier (walk next v) n p.period (suc d)
    further e = by_place (cases_lt (e.step + 1) p.period)
      where
        one_more : walk next v (n + suc d) ≡ walk next v (n + e.step + 1)
        one_more =
            let a : n + suc d ≡ n + d + 1 = omega arith in
            ap (walk next v) a
            ∙ walk-add-one next v (n + d)
            ∙ ap next e.same
            ∙ sym (walk-add-one next v (n + e.step))

        by_place : (e.step + 1 < p.period) ⊎ (p.period ≤ e.step + 1) → Earlier (walk next v) n p.period (suc d)
        by_place (inl inner) =
            let a : n + e.step + 1 ≡ n + (e.step + 1) = omega arith in
            record { step = e.step + 1; below = inner; same = one_more ∙ ap (walk next v) a }
        by_place (inr last) =
            let a : n + e.step + 1 ≡ n + p.period = omega (arith, e.below) in
            let b : n ≡ n + 0 = omega arith in
            record {
              step = 0;
              below = p.some;
              same = one_more ∙ ap (walk next v) a ∙ p.again n (omega arith) ∙ ap (walk next v) b;
            }

pub record Round (next : ℕ → ℕ) (f : ℕ → ℕ) (x : ℕ) : Type 0 where
  pub length_of : ℕ
  pub some : 0 < length_of
  pub closed : walk next x length_of ≡ x
  pub lowest : (k : ℕ) → f x ≤ f (walk next x k)

pub lowest_round : (next : ℕ → ℕ) (f : ℕ → ℕ) (n v x : ℕ) → ((k : ℕ) → walk next v k < n) → IsLowestFrom next f n v x
    → Round next f x
lowest_round next f n v x low is = from (period next v n low)
  where
    from : Period (walk next v) n → Round next f x
    from p = record {
      length_of = p.period;
      some = p.some;
      closed = ap (λ y. walk next y p.period) (sym is.there) ∙ walk-sum next v is.steps p.period ∙ p.again is.steps is.late ∙ is.there;
      lowest = lowest;
    }
      where
        lowest : (k : ℕ) → f x ≤ f (walk next x k)
        lowest k =
            let e = earlier next v n p (is.steps + k - n) in
            let a : is.steps + k ≡ n + (is.steps + k - n) = omega (arith, is.late) in
            let same : walk next x k ≡ walk next v (n + e.step) =
            ap (λ y. walk next y k) (sym is.there) ∙ walk-sum next v is.steps k ∙ ap (walk next v) a ∙ e.same
            in
            let at_most = is.lowest (n + e.step) (omega arith) (omega (arith, e.below, p.short)) in
            subst (λ y. f x ≤ f y) (sym same) at_most

-- ---- the lowest of a walk, step by step

module _ (next : ℕ → ℕ) (f : ℕ → ℕ) (n v : ℕ) where
  pub lowest_first : (x : ℕ) → walk next v n ≡ x → IsLowestTo next f n v 0 x
  lowest_first x there = record {
    steps = n;
    late = omega arith;
    there = there;
    lowest = λ k late early.
        let here : n ≡ k = omega arith in
        let same : f x ≡ f (walk next v k) = ap f (sym there ∙ ap (walk next v) here) in
        omega arith;
  }

  -- what holds up to n + m, and one step behind, holds up to n + (m + 1)
  one_more : (P : ℕ → Type 0) (m : ℕ) → ((k : ℕ) → n ≤ k → k ≤ n + m → P k) → P (n + m + 1)
      → (k : ℕ) → n ≤ k → k ≤ n + (m + 1) → P k
  one_more P m before last k late early = by_place (cases_lt k (n + m + 1))
    where
      by_place : (k < n + m + 1) ⊎ (n + m + 1 ≤ k) → P k
      by_place (inl low) = before k late (omega arith)
      by_place (inr high) = let here : n + m + 1 ≡ k = omega arith in subst P here last

  module _ (m at x : ℕ) (there : walk next v (n + m) ≡ at) (is : IsLowestTo next f n v m x) where
    pub there_next : walk next v (n + (m + 1)) ≡ next at
    there_next =
        let e : n + (m + 1) ≡ n + m + 1 = omega arith in
        ap (walk next v) e ∙ walk-add-one next v (n + m) ∙ ap next there

    there_more : walk next v (n + m + 1) ≡ next at
    there_more = walk-add-one next v (n + m) ∙ ap next there

    lowest_stays : f x ≤ f (next at) → IsLowestTo next f n v (m + 1) x
    lowest_stays stays = record {
      steps = is.steps;
      late = is.late;
      there = is.there;
      lowest = one_more (λ k. f x ≤ f (walk next v k)) m is.lowest (subst (λ y. f x ≤ f y) (sym there_more) stays);
    }

    lowest_falls : f (next at) < f x → IsLowestTo next f n v (m + 1) (next at)
    lowest_falls falls = record {
      steps = n + (m + 1);
      late = omega arith;
      there = there_next;
      lowest = one_more (λ k. f (next at) ≤ f (walk next v k)) m
          (λ k late early. let before = is.lowest k late early in omega arith)
          (let same : f (walk next v (n + m + 1)) ≡ f (next at) = ap f there_more in omega arith);
    }

    pub lowest_more : (y : ℕ) → IsLower f x (next at) y → IsLowestTo next f n v (m + 1) y
    lowest_more y (inl (same, falls)) = subst (IsLowestTo next f n v (m + 1)) (sym same) (lowest_falls falls)
    lowest_more y (inr (same, stays)) = subst (IsLowestTo next f n v (m + 1)) (sym same) (lowest_stays stays)

  pub some_lowest : (m : ℕ) → (x : ℕ) × IsLowestTo next f n v m x
  some_lowest zero = (walk next v n, lowest_first (walk next v n) refl)
  some_lowest (suc m) = more (some_lowest m)
    where
      more : (x : ℕ) × IsLowestTo next f n v m x → (x : ℕ) × IsLowestTo next f n v (suc m) x
      more (x, is) = by_order (cases_lt (f (next (walk next v (n + m)))) (f x))
        where
          at : ℕ
          at = walk next v (n + m)

          one : (y : ℕ) → IsLower f x (next at) y → IsLowestTo next f n v (suc m) y
          one y lower =
              let e : m + 1 ≡ suc m = omega arith in
              subst (λ k. IsLowestTo next f n v k y) e (lowest_more m at x refl is y lower)

          by_order : (f (next at) < f x) ⊎ (f x ≤ f (next at)) → (y : ℕ) × IsLowestTo next f n v (suc m) y
          by_order (inl falls) = (next at, one (next at) (inl (refl, falls)))
          by_order (inr stays) = (x, one x (inr (refl, stays)))

pub lower_below : (f : ℕ → ℕ) (x y z n : ℕ) → IsLower f x y z → x < n → y < n → z < n
lower_below f x y z n (inl (same, falls)) x_low y_low = omega arith
lower_below f x y z n (inr (same, stays)) x_low y_low = omega arith
