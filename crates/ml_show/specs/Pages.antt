-- Texts for people. Of such a text nothing else is claimed.
--
--   EndsWithLf bytes  == the last byte is LF
use Rattle.std.specs.Prelude.{ℕ, List, [], ◌∷◌, ◌≡◌}

abbrev pub EndsWithLf : List ℕ → Type 0
EndsWithLf [] = ⊥
EndsWithLf (c ∷ []) = c ≡ 10
EndsWithLf (_ ∷ c ∷ cs) = EndsWithLf (c ∷ cs)
