-- Numbers that hold others, as the digits of a base. (General; it would belong to ml_lists.)
--
--   pair_low, pair_same == a * k + b, with b below k, is below m * k where a is below m; it tells a and b
--   pack b n f          == the digits f 0, f 1, .. f (n - 1) of the base b, as one number
--   pack_low, pack_same == it is below b ^ n where the digits are below b; it tells them
use Rattle.std.proofs.Common.{ℕ, zero, suc, ◌≡◌, ◌+◌, ◌*◌, ◌^◌, ◌<◌, ◌≤◌, ◌⊎◌, inl, inr, ⊎_elim, sym, ap, ◌∙◌, subst, arith}
use Rattle.std.proofs.Math.Nat.{mul-le-mul_right, pow-zero, pow-suc}
use Rattle.std.proofs.lemmas.Bool.{cases_lt, cases_eq}

-- two numbers in one
pub pair_low : (a b m k : ℕ) → a < m → b < k → a * k + b < m * k
pair_low a b m k a_low b_low =
    let next : a + 1 ≤ m = omega arith in
    let step : (a + 1) * k ≤ m * k = mul-le-mul_right k next in
    omega arith

less_apart : (a b c d k : ℕ) → b < k → a < c → a * k + b ≡ c * k + d → ⊥
less_apart a b c d k low less e =
    let next : a + 1 ≤ c = omega arith in
    let step : (a + 1) * k ≤ c * k = mul-le-mul_right k next in
    omega arith

pub pair_same : (a b c d k : ℕ) → b < k → d < k → a * k + b ≡ c * k + d → (a ≡ c) × (b ≡ d)
pair_same a b c d k b_low d_low e =
    ⊎_elim
    (λ (less : a < c). absurd (less_apart a b c d k b_low less e))
    (λ (rest : c ≤ a). ⊎_elim
    (λ (more : c < a). absurd (less_apart c d a b k d_low more (sym e)))
    (λ (back : a ≤ c).
    let same : a ≡ c = omega arith in
    let products : a * k ≡ c * k = ap (λ n. n * k) same in
    (same, let rests : b ≡ d = omega arith in rests))
    (cases_lt c a))
    (cases_lt a c)

-- the digits of the base b, as one number
abbrev pub pack : ℕ → ℕ → (ℕ → ℕ) → ℕ
pack b zero f = 0
pack b (suc n) f = pack b n f * b + f n

-- it is below the power
pub pack_low : (b n : ℕ) (f : ℕ → ℕ) → ((i : ℕ) → i < n → f i < b) → pack b n f < b ^ n
pack_low b zero f low = subst (λ k. 0 < k) (sym (pow-zero b)) (omega arith)
pack_low b (suc n) f low =
    let rest = pack_low b n f (λ i i_low. low i (omega arith)) in
    let whole : pack b n f * b + f n < b ^ n * b = pair_low (pack b n f) (f n) (b ^ n) b rest (low n (omega arith)) in
    subst (λ k. pack b n f * b + f n < k) (sym (pow-suc b n)) whole

-- and tells each digit
pub pack_same : (b n : ℕ) (f h : ℕ → ℕ)
    → ((i : ℕ) → i < n → f i < b)
    → ((i : ℕ) → i < n → h i < b)
    → pack b n f ≡ pack b n h
    → (i : ℕ)
    → i < n
    → f i ≡ h i
pack_same b zero f h f_low h_low e i low = absurd (omega arith)
pack_same b (suc n) f h f_low h_low e i low =
    by_place (pair_same (pack b n f) (f n) (pack b n h) (h n) b (f_low n (omega arith)) (h_low n (omega arith)) e) (cases_eq i n)
    (λ same. pack_same b n f h (λ j j_low. f_low j (omega arith)) (λ j j_low. h_low j (omega arith)) same i)
  where
    by_place : (pack b n f ≡ pack b n h) × (f n ≡ h n) → (i ≡ n) ⊎ (i ≡ n → ⊥)
        → (pack b n f ≡ pack b n h → i < n → f i ≡ h i)
        → f i ≡ h i
    by_place both (inl here) rest = ap f here ∙ both.1 ∙ ap h (sym here)
    by_place both (inr other) rest = rest both.0 (omega arith)
