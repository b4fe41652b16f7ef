-- Choices: which child is taken at an or-node.
--
-- A choice is a finite map from or-nodes to sides, as a list that ascends by nodes.
--
--   side_of c n   == the side that c takes at node n, or None
--   IsChoice c    == the nodes of c ascend, so that each stands there once
--   chosen s l r  == the left child or the right one
--   with_side c n s == the choice c with the side s at node n, which has none in c
use Rattle.std.specs.Prelude.{ℕ, ◌==◌, nat_lt, List, [], ◌∷◌, map, Option, Some, None, if◌then◌else◌}
use Rattle.ml_lists.specs.Ascending.{IsAscending}
use Rattle.ml_sequent.specs.declared.choice.Side.{Side}
use Rattle.ml_sequent.specs.declared.choice.Side.TheVariants.{Left, Right}

-- the side at a node
abbrev pub side_of : List (ℕ × Side) → ℕ → Option Side
side_of [] n = None
side_of (p ∷ c) n = if p.0 == n then Some p.1 else side_of c n

-- the nodes that are chosen, ascending
abbrev pub IsChoice : List (ℕ × Side) → Type 0
IsChoice c = IsAscending (map (λ p. p.0) c)

-- the left child or the right one
abbrev pub chosen : Side → ℕ → ℕ → ℕ
chosen Left l r = l
chosen Right l r = r

-- the choice with one more side, at a node that has none
abbrev pub with_side : List (ℕ × Side) → ℕ → Side → List (ℕ × Side)
with_side [] n s = (n, s) ∷ []
with_side (p ∷ c) n s = if nat_lt n p.0 then (n, s) ∷ p ∷ c else p ∷ with_side c n s
