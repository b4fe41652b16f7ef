-- Lists one behind the other in one list of numbers.
--
--   part ns i j      == the numbers ns from the place i on, up to the place j
--   rows i ends ns   == the parts of ns that end at these places, the first of which begins at i
--   AreEnds i ends n == these places rise from i on, and the last one is n
use Rattle.std.specs.Prelude.{ℕ, ◌-◌, ◌≡◌, ◌≤◌, List, [], ◌∷◌, take, drop}

abbrev pub part : List ℕ → ℕ → ℕ → List ℕ
part ns i j = take (j - i) (drop i ns)

abbrev pub rows : ℕ → List ℕ → List ℕ → List (List ℕ)
rows i [] ns = []
rows i (j ∷ ends) ns = part ns i j ∷ rows j ends ns

abbrev pub AreEnds : ℕ → List ℕ → ℕ → Type 0
AreEnds i [] n = i ≡ n
AreEnds i (j ∷ ends) n = (i ≤ j) × AreEnds j ends n
