-- The numbers of states where the start and state 0 change theirs.
--
--   swap_start, swap_zero, swap_other == what the number of a state becomes
--   swap_twice   == changed twice it is as it was
--   swap_low     == states become states
use Rattle.std.proofs.Common.{ℕ, ◌≡◌, ◌==◌, ◌<◌, ◌⊎◌, inl, inr, true, false, if◌then◌else◌, refl, sym, ap, ◌∙◌, subst, arith}
use Rattle.std.proofs.lemmas.Bool.{cases_Bool, cond-true, cond-false, eqb-true, eq-eqb}
use Rattle.ml_paths.specs.private.Systems.{swapped}

pub swap_zero : (start : ℕ) → swapped start 0 ≡ start
swap_zero start = refl

pub swap_start : (start : ℕ) → swapped start start ≡ 0
swap_start start = by (cases_Bool (start == 0))
  where
    by : ((start == 0) ≡ true) ⊎ ((start == 0) ≡ false) → swapped start start ≡ 0
    by (inl zero_at) = cond-true (start == 0) start (if start == start then 0 else start) zero_at ∙ eqb-true start 0 zero_at
    by (inr other) =
        cond-false (start == 0) start (if start == start then 0 else start) other
        ∙ cond-true (start == start) 0 start (eq-eqb start start refl)

pub swap_other : (start a : ℕ) → (a == 0) ≡ false → (a == start) ≡ false → swapped start a ≡ a
swap_other start a not_zero other =
    cond-false (a == 0) start (if a == start then 0 else a) not_zero ∙ cond-false (a == start) 0 a other

pub swap_twice : (start a : ℕ) → swapped start (swapped start a) ≡ a
swap_twice start a = by (cases_Bool (a == 0)) (cases_Bool (a == start))
  where
    by : ((a == 0) ≡ true) ⊎ ((a == 0) ≡ false) → ((a == start) ≡ true) ⊎ ((a == start) ≡ false)
        → swapped start (swapped start a) ≡ a
    by (inl zero_at) d =
        let here = eqb-true a 0 zero_at in
        ap (λ b. swapped start (swapped start b)) here ∙ swap_start start ∙ sym here
    by (inr not_zero) (inl at) =
        let here = eqb-true a start at in
        ap (λ b. swapped start (swapped start b)) here ∙ ap (swapped start) (swap_start start) ∙ sym here
    by (inr not_zero) (inr other) =
        ap (swapped start) (swap_other start a not_zero other) ∙ swap_other start a not_zero other

pub swap_low : (start a n : ℕ) → start < n → a < n → swapped start a < n
swap_low start a n start_low low = by (cases_Bool (a == 0)) (cases_Bool (a == start))
  where
    by : ((a == 0) ≡ true) ⊎ ((a == 0) ≡ false) → ((a == start) ≡ true) ⊎ ((a == start) ≡ false)
        → swapped start a < n
    by (inl zero_at) d = subst (λ b. swapped start b < n) (sym (eqb-true a 0 zero_at)) start_low
    by (inr not_zero) (inl at) =
        subst (λ b. b < n) (sym (ap (swapped start) (eqb-true a start at) ∙ swap_start start)) (omega (arith, low))
    by (inr not_zero) (inr other) = subst (λ b. b < n) (sym (swap_other start a not_zero other)) low
