-- Rows that stand behind each other in one list. Only private contracts and proofs cite what stands here.
--
-- A list of starts tells where the rows lie: each row goes from one entry of it up to the next, and the last entry is
-- where the last row ends, so that there is one entry more than there are rows.
--
--   rows_from a ends xs == the rows of xs from a on, each of which goes up to the next of the ends
--   rows_of starts xs   == the rows of xs between the entries of starts
--   Ascends a ends n    == a and the ends ascend, and the last of them is n
--   IsLaid starts xs    == the starts ascend, and the last of them is the length of xs
use Rattle.std.specs.Prelude.{ℕ, ◌≡◌, ◌-◌, ◌≤◌, List, [], ◌∷◌, length, take, drop}

-- the rows of xs from a on, each of which goes up to the next of the ends
abbrev pub rows_from : ℕ → List ℕ → List ℕ → List (List ℕ)
rows_from a [] xs = []
rows_from a (b ∷ ends) xs = take (b - a) (drop a xs) ∷ rows_from b ends xs

-- the rows of xs between the entries of starts
abbrev pub rows_of : List ℕ → List ℕ → List (List ℕ)
rows_of [] xs = []
rows_of (a ∷ ends) xs = rows_from a ends xs

-- a and the ends ascend, and the last of them is n
abbrev pub Ascends : ℕ → List ℕ → ℕ → Type 0
Ascends a [] n = a ≡ n
Ascends a (b ∷ ends) n = (a ≤ b) × Ascends b ends n

-- the starts ascend, and the last of them is the length of xs
abbrev pub IsLaid : List ℕ → List ℕ → Type 0
IsLaid [] xs = ⊥
IsLaid (a ∷ ends) xs = Ascends a ends (length xs)
