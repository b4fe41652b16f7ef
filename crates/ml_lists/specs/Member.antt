-- Membership of a list, by recursion on the list.
--
-- A member is found by walking down the list, so a proof that something is a member says at which entry. (The
-- library's `Contains` says the same by a place; recursion suits inductions.)
--
--   IsMember x xs == x is an entry of xs
use Rattle.std.specs.Prelude.{◌≡◌, ◌⊎◌, List, [], ◌∷◌}

-- x is an entry of xs
abbrev pub IsMember : {X : Type 0} → X → List X → Type 0
IsMember x [] = ⊥
IsMember x (y ∷ ys) = (x ≡ y) ⊎ IsMember x ys
