-- A class's members, gone through from the last one back, where what isn't in the class is dropped.
--
--   Scanned == nothing of the class was dropped, and those that were passed are in the class and not settled
use Rattle.std.proofs.Common.{ℕ, ◌≡◌, ◌<◌, ◌≤◌, Bool, List, length, get_or, All, Contains}
use Rattle.ml_bisim.specs.Quotient.{class_of}
use Rattle.ml_bisim.specs.private.Rounds.{IsSettled}

module _ (class : List ℕ) (flags : List Bool) (of : ℕ) (old : List ℕ) where
  pub record Scanned (rest : ℕ) (xs : List ℕ) : Type 0 where
    pub bound : rest ≤ length xs
    pub in_range : All (λ s. s < length class) xs
    pub kept : (s : ℕ) → class_of class s ≡ of → Contains old s → Contains xs s
    pub seen : (k : ℕ) → rest ≤ k → k < length xs
        → (class_of class (get_or xs k 0) ≡ of) × (¬ (IsSettled flags (get_or xs k 0)))
