-- A list several times over.
--
--   repeated k xs == the list xs, k times one behind the other
use Rattle.std.specs.Prelude.{ℕ, zero, suc, List, [], ◌++◌}

-- the list xs, k times one behind the other
abbrev pub repeated : {X : Type 0} → ℕ → List X → List X
repeated zero xs = []
repeated (suc k) xs = xs ++ repeated k xs
