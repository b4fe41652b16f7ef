-- Numbers that come in turn, by their places.
--
--   runs_low, all_low == each is below where the run ends
--   runs_place  == each number below that stands at some place
--   runs_long   == there are no more of them than places
use Rattle.std.proofs.Common.{ℕ, zero, suc, ◌≡◌, ◌+◌, ◌<◌, ◌≤◌, inl, inr, List, [], ◌∷◌, length, get_or, All, arith}
use Rattle.std.proofs.lemmas.Grind.{get_or_default_zero}
use Rattle.ml_lists.specs.InTurn.{RunsOn}
use Rattle.ml_lists.proofs.InTurn.{runs_up, runs_has}
use Rattle.ml_lists.proofs.Member.{Place, member-place}

pub runs_low : (n m : ℕ) (xs : List ℕ) → RunsOn n xs m → (i : ℕ) → i < length xs → get_or xs i 0 < m
runs_low n m [] runs i low = absurd (omega arith)
runs_low n m (x ∷ xs) (inl old) zero low = omega (arith, runs_up n m xs old.1, old.0)
runs_low n m (x ∷ xs) (inl old) (suc i) low = runs_low n m xs old.1 i (omega arith)
runs_low n m (x ∷ xs) (inr new) zero low = omega (arith, runs_up (n + 1) m xs new.1, new.0)
runs_low n m (x ∷ xs) (inr new) (suc i) low = runs_low (n + 1) m xs new.1 i (omega arith)

pub all_low : (m : ℕ) (xs : List ℕ) → RunsOn 0 xs m → All (λ x. x < m) xs
all_low m xs runs = λ i d low.
    let under = runs_low 0 m xs runs i low in let at = get_or_default_zero xs i d low in omega (arith, under, at)

pub runs_place : (m : ℕ) (xs : List ℕ) → RunsOn 0 xs m → (k : ℕ) → k < m
    → (i : ℕ) × (i < length xs) × (get_or xs i 0 ≡ k)
runs_place m xs runs k low = of_place (member-place k xs (runs_has 0 m xs runs k (omega arith) low))
  where
    of_place : Place k xs → (i : ℕ) × (i < length xs) × (get_or xs i 0 ≡ k)
    of_place p = (p.place, p.below, p.holds 0)

pub runs_long : (n m : ℕ) (xs : List ℕ) → RunsOn n xs m → m ≤ n + length xs
runs_long n m [] same = omega arith
runs_long n m (x ∷ xs) (inl old) = omega (arith, runs_long n m xs old.1)
runs_long n m (x ∷ xs) (inr new) = omega (arith, runs_long (n + 1) m xs new.1)
