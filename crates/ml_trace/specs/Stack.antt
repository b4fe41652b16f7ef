-- Items: states with stacks of names.
--
-- A stack is a list of names, which are numbers; its last name is the innermost one. Names that are in use are those
-- below a number, `live`. A step of the determinisation, or a line of a refutation, goes from one entry to another.
--
--   Item            == a state with a stack
--   Entry           == items, and the number of names in use
--   has y s         == the name y stands in the stack s
--   ends_in y s     == y is the last name of s
--   IsAdvanced y s  == y stands in s and isn't its last name
use Rattle.std.specs.Prelude.{◌≡◌, ℕ, Bool, true, false, ◌==◌, List, [], ◌∷◌}
use Rattle.std.specs.List.{list_any}

-- a state with a stack of names
pub record Item (S : Type 0) : Type 0 where
  pub state : S
  pub stack : List ℕ

-- items, and the number of names in use
pub record Entry (S : Type 0) : Type 0 where
  pub live : ℕ
  pub items : List (Item S)

-- y stands in the stack
abbrev pub has : ℕ → List ℕ → Bool
has y s = list_any (λ x. x == y) s

-- y is the last name of the stack
abbrev pub ends_in : ℕ → List ℕ → Bool
ends_in y [] = false
ends_in y (x ∷ []) = x == y
ends_in y (x ∷ (z ∷ zs)) = ends_in y (z ∷ zs)

-- y stands in the stack, and isn't its last name
abbrev pub IsAdvanced : ℕ → List ℕ → Type 0
IsAdvanced y s = (has y s ≡ true) × (ends_in y s ≡ false)
