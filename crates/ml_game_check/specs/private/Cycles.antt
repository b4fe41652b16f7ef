-- The cycle to which choices lead.
--
-- Among n vertices n choices lead to a cycle, and n more go round it.
--
--   IsLower f x y z           == z is y where f is lower there than at x, and else x
--   IsLowestTo next f n v m x == x is met from v on, behind n steps, and f is nowhere lower in the m steps behind these
--   IsLowestFrom next f n v x == and in n steps
use Rattle.std.specs.Prelude.{ℕ, ◌≡◌, ◌+◌, ◌<◌, ◌≤◌, ◌⊎◌}
use Rattle.ml_lists.specs.Walk.{walk}

abbrev pub IsLower : (ℕ → ℕ) → ℕ → ℕ → ℕ → Type 0
IsLower f x y z = ((z ≡ y) × (f y < f x)) ⊎ ((z ≡ x) × (f x ≤ f y))

pub record IsLowestTo (next : ℕ → ℕ) (f : ℕ → ℕ) (n v m x : ℕ) : Type 0 where
  pub steps : ℕ
  pub late : n ≤ steps
  pub there : walk next v steps ≡ x
  pub lowest : (k : ℕ) → n ≤ k → k ≤ n + m → f x ≤ f (walk next v k)

abbrev pub IsLowestFrom : (ℕ → ℕ) → (ℕ → ℕ) → ℕ → ℕ → ℕ → Type 0
IsLowestFrom next f n v x = IsLowestTo next f n v n x
