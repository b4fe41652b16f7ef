-- Numbers that come in turn: each new one is the next.
--
--   RunsOn n xs m == where the numbers below n were met, those of xs that are new come as n, n + 1 and so on, up to m
use Rattle.std.specs.Prelude.{ℕ, ◌≡◌, ◌+◌, ◌<◌, ◌⊎◌, List, [], ◌∷◌}

abbrev pub RunsOn : ℕ → List ℕ → ℕ → Type 0
RunsOn n [] m = n ≡ m
RunsOn n (x ∷ xs) m = ((x < n) × RunsOn n xs m) ⊎ ((x ≡ n) × RunsOn (n + 1) xs m)
