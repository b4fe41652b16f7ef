-- Lists that repeat themselves, and sequences that take the same values again.
--
--   repeats_shifted   == a list repeats itself exactly where its end, from so many places on, is its front
--   period_times      == so many periods are one
--   period_sooner     == a sequence that has some period from s on has each other period of its own from s on too
--   period_difference == the difference of two periods is one
--   IsCommonPeriod    == a period that is the greatest common divisor of two others
--   common_period     == there is one, by Euclid's algorithm
use Rattle.std.proofs.Common.{ℕ, zero, suc, ◌≡◌, ◌+◌, ◌-◌, ◌*◌, ◌<◌, ◌≤◌, ◌⊎◌, inl, inr, ◌↔◌, arith, List, drop, get_or, length, take, sym, ap, ◌∙◌, subst, length-drop}
use Rattle.std.specs.Int.{IsGcd, ◌∣◌}
use Rattle.std.proofs.Math.Nat.{suc-mul, zero-mul, le-mul_of_pos_right}
use Rattle.std.proofs.lemmas.Bool.{cases_lt}
use Rattle.std.proofs.lemmas.List.{ext_get_or, get_or-drop, get_or-take, length-take-le}
use Rattle.std.proofs.lemmas.Nat.Gcd.{IsGcd-from_sub, IsGcd-swap, dvd_refl}
use Rattle.ml_paths.specs.private.Shortening.{IsPeriodFrom, Repeats}

module _ (xs : List ℕ) (d : ℕ) (fits : d ≤ length xs) where
  abbrev end : List ℕ
  end = take (length xs - d) (drop d xs)

  abbrev front : List ℕ
  front = take (length xs - d) xs

  end_at : (k : ℕ) → k + d < length xs → get_or end k 0 ≡ get_or xs (k + d) 0
  end_at k low =
      let there : d + k ≡ k + d = omega arith in
      get_or-take (length xs - d) (drop d xs) k 0 (omega (arith, low))
      ∙ get_or-drop d xs k 0
      ∙ ap (λ n. get_or xs n 0) there

  front_at : (k : ℕ) → k + d < length xs → get_or front k 0 ≡ get_or xs k 0
  front_at k low = get_or-take (length xs - d) xs k 0 (omega (arith, low))

  end_long : length end ≡ length xs - d
  end_long =
      length-take-le (length xs - d) (drop d xs) (let long = length-drop d xs in omega (arith, long))

  front_long : length front ≡ length xs - d
  front_long = length-take-le (length xs - d) xs (omega arith)

  -- a list repeats itself exactly where its end, from so many places on, is its front
  pub repeats_shifted : (take (length xs - d) (drop d xs) ≡ take (length xs - d) xs) ↔ Repeats xs d
  repeats_shifted = (
    λ same k low. sym (end_at k low) ∙ ap (λ ys. get_or ys k 0) same ∙ front_at k low,
    λ repeats.
        ext_get_or 0 end front (end_long ∙ sym front_long)
        (λ k low. let long = end_long in let inside : k + d < length xs = omega (arith, low, long, fits) in
        end_at k inside ∙ repeats k inside ∙ sym (front_at k inside)),
  )

module _ (c : ℕ → ℕ) (s : ℕ) where
  -- so many periods are one
  pub period_times : (p : ℕ) → IsPeriodFrom c s p → (m : ℕ) → IsPeriodFrom c s (m * p)
  period_times p is zero k late = let e : k + 0 * p ≡ k = omega (arith, zero-mul p) in ap c e
  period_times p is (suc m) k late =
      let e : k + suc m * p ≡ (k + m * p) + p = omega (arith, suc-mul m p) in
      ap c e ∙ is (k + m * p) (omega (arith, late)) ∙ period_times p is m k late

  -- a period that it has from somewhere on it has from s on
  pub period_sooner : (p t q : ℕ) → 0 < p → IsPeriodFrom c s p → IsPeriodFrom c t q → IsPeriodFrom c s q
  period_sooner p t q some is later k late =
      let far : t ≤ t * p = le-mul_of_pos_right t some in
      let e : (k + q) + t * p ≡ (k + t * p) + q = omega arith in
      sym (period_times p is t (k + q) (omega (arith, late)))
      ∙ ap c e
      ∙ later (k + t * p) (omega (arith, far))
      ∙ period_times p is t k late

  -- the difference of two periods is one
  pub period_difference : (a b : ℕ) → b ≤ a → IsPeriodFrom c s a → IsPeriodFrom c s b → IsPeriodFrom c s (a - b)
  period_difference a b le by_a by_b k late =
      let e : (k + (a - b)) + b ≡ k + a = omega (arith, le) in
      sym (by_b (k + (a - b)) (omega (arith, late))) ∙ ap c e ∙ by_a k late

  pub record IsCommonPeriod (a b g : ℕ) : Type 0 where
    pub some : 0 < g
    pub is_gcd : IsGcd a b g
    pub is_period : IsPeriodFrom c s g

  abbrev pub Common : ℕ → ℕ → Type 0
  Common a b = (g : ℕ) × IsCommonPeriod a b g

  swapped_common : (a b : ℕ) → Common b a → Common a b
  swapped_common a b (g, is) =
      (g, record { some = is.some; is_gcd = IsGcd-swap b a g is.is_gcd; is_period = is.is_period })

  common_more : (a b : ℕ) → b ≤ a → Common (a - b) b → Common a b
  common_more a b le (g, is) =
      (g, record { some = is.some; is_gcd = IsGcd-from_sub a b g le is.is_gcd; is_period = is.is_period })

  common_same : (a b : ℕ) → a ≡ b → 0 < a → IsPeriodFrom c s a → Common a b
  common_same a b same some by_a =
      (a, record { some = some; is_gcd = (dvd_refl a, subst (λ n. a ∣ n) same (dvd_refl a), λ d p q. p); is_period = by_a })

  within : (n a b : ℕ) → a + b ≤ n → 0 < a → 0 < b → IsPeriodFrom c s a → IsPeriodFrom c s b → Common a b
  within zero a b few some_a some_b by_a by_b = absurd (omega (arith, few, some_a))
  within (suc n) a b few some_a some_b by_a by_b = by_size (cases_lt a b) (cases_lt b a) (within n)
    where
      by_size : (a < b) ⊎ (b ≤ a) → (b < a) ⊎ (a ≤ b)
          → ((a b : ℕ) → a + b ≤ n → 0 < a → 0 < b → IsPeriodFrom c s a → IsPeriodFrom c s b → Common a b)
          → Common a b
      by_size (inl less) _ rest =
          swapped_common a b
          (common_more b a (omega (arith, less))
          (rest (b - a) a (omega (arith, few, less, some_a)) (omega (arith, less)) some_a
          (period_difference b a (omega (arith, less)) by_b by_a) by_a))
      by_size (inr le) (inl less) rest =
          common_more a b le
          (rest (a - b) b (omega (arith, few, less, some_b)) (omega (arith, less)) some_b
          (period_difference a b le by_a by_b) by_b)
      by_size (inr le) (inr back) rest = common_same a b (omega (arith, le, back)) some_a by_a

  -- two periods have a common one, their greatest common divisor
  pub common_period : (a b : ℕ) → 0 < a → 0 < b → IsPeriodFrom c s a → IsPeriodFrom c s b → Common a b
  common_period a b = within (a + b) a b (omega arith)
