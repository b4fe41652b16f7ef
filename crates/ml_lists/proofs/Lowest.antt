-- The lowest entry of a list of numbers, its head apart.
--
--   lowest_le_head == it is at most the head
--   lowest_le      == it is at most each entry
--   lowest_place   == it is one of the entries
--   lowest_is      == an entry that is at most each entry is the lowest
--   lowest_above   == what is at most each entry is at most the lowest
--   lowest-append  == the lowest of an append is the lower of the two
use Rattle.std.proofs.Common.{ℕ, zero, suc, ◌≡◌, ◌<◌, ◌≤◌, arith, List, [], ◌∷◌, ◌++◌, length, get_or, min, refl, le_antisymm}
use Rattle.std.proofs.Common.{◌⊎◌, inl, inr}
use Rattle.std.proofs.lemmas.Bool.{cases_lt}
use Rattle.ml_lists.specs.Lowest.{lowest}

-- it is at most the head
pub lowest_le_head : (x : ℕ) (xs : List ℕ) → lowest x xs ≤ x
lowest_le_head x [] = omega arith
lowest_le_head x (y ∷ ys) = omega arith

-- it is at most each entry
pub lowest_le : (x : ℕ) (xs : List ℕ) (k d : ℕ) → k < length (x ∷ xs) → lowest x xs ≤ get_or (x ∷ xs) k d
lowest_le x xs zero d low = lowest_le_head x xs
lowest_le x [] (suc k) d low = absurd (omega arith)
lowest_le x (y ∷ ys) (suc k) d low =
    let rest : lowest y ys ≤ get_or (y ∷ ys) k d = lowest_le y ys k d (omega arith) in
    omega arith

-- a place in the list x, xs at which its lowest entry stands
pub record LowestPlace (x : ℕ) (xs : List ℕ) : Type 0 where
  pub place : ℕ
  pub below : place < length (x ∷ xs)
  pub holds : (d : ℕ) → get_or (x ∷ xs) place d ≡ lowest x xs

-- it is one of the entries
pub lowest_place : (x : ℕ) (xs : List ℕ) → LowestPlace x xs
lowest_place x [] = record { place = 0; below = omega arith; holds = λ d. refl }
lowest_place x (y ∷ ys) = by_case (lowest_place y ys) (cases_lt x (lowest y ys))
  where
    by_case : LowestPlace y ys → (x < lowest y ys) ⊎ (lowest y ys ≤ x) → LowestPlace x (y ∷ ys)
    by_case r (inl smaller) = record { place = 0; below = omega arith; holds = λ d. omega arith }
    by_case r (inr larger) = record { place = suc r.place; below = omega (arith, r.below); holds = λ d. omega (arith, r.holds d) }

-- an entry that is at most each entry is the lowest
pub lowest_is : (x : ℕ) (xs : List ℕ) (k d : ℕ) → k < length (x ∷ xs)
    → ((j : ℕ) → j < length (x ∷ xs) → get_or (x ∷ xs) k d ≤ get_or (x ∷ xs) j d) → lowest x xs ≡ get_or (x ∷ xs) k d
lowest_is x xs k d low least =
    let p = lowest_place x xs in
    le_antisymm (lowest_le x xs k d low) (omega (arith, least p.place p.below, p.holds d))

-- what is at most each entry is at most the lowest
pub lowest_above : (x : ℕ) (xs : List ℕ) (m d : ℕ) → ((j : ℕ) → j < length (x ∷ xs) → m ≤ get_or (x ∷ xs) j d)
    → m ≤ lowest x xs
lowest_above x xs m d above =
    let p = lowest_place x xs in
    omega (arith, above p.place p.below, p.holds d)

-- the lowest of an append is the lower of the two
pub lowest-append : (x : ℕ) (xs : List ℕ) (y : ℕ) (ys : List ℕ)
    → lowest x (xs ++ y ∷ ys) ≡ min (lowest x xs) (lowest y ys)
lowest-append x [] y ys = refl
lowest-append x (z ∷ zs) y ys =
    let rest = lowest-append z zs y ys in
    omega arith
