-- The names in use in a line, worst offer first.
--
-- A name's parent is the one before it in the stacks; the number of names in use stands for the parent of a name that
-- begins stacks, and stands at the head of the line. Names come into the line by age, each right behind its parent. So
-- the line runs through the tree of names with parents before children, and younger children before older ones: it is
-- the order of offers backwards.
--
--   before_last r s           == the name before the last one of the stack s, or r
--   AreParents parents h      == the parents of the names in use in h
--   IsTree parents            == each name's parent is older, or it has none
--   put_behind p y xs         == the line xs with y right behind p
--   line parent r n           == the line of the names below n, where r stands at the head
--   Links next xs             == next leads from each entry of xs to the one behind it
--   AreLinks next parents     == next leads along the line of all names
--   ArePlaces places parents  == the places of the names, where the last one of the line has the place 0
use Rattle.std.specs.Prelude.{◌≡◌, ◌⊎◌, ℕ, zero, suc, ◌+◌, ◌-◌, ◌<◌, ◌==◌, if◌then◌else◌, List, [], ◌∷◌, length, slice_index_or}
use Rattle.ml_lists.specs.Member.{IsMember}
use Rattle.ml_trace.specs.Stack.{Item}
use Rattle.ml_history.specs.HistoryStep.{last_name, live}

-- the name before the last one, or r
abbrev pub before_last : ℕ → List ℕ → ℕ
before_last r [] = r
before_last r (x ∷ []) = r
before_last r (x ∷ (y ∷ [])) = x
before_last r (x ∷ (y ∷ (z ∷ zs))) = before_last r (y ∷ (z ∷ zs))

-- the parents of the names in use
pub record AreParents (parents : List ℕ) (h : List (Item ℕ)) : Type 0 where
  pub count : length parents ≡ live h
  pub are : (a : Item ℕ) → IsMember a h → slice_index_or parents (last_name a.stack) 0 ≡ before_last (live h) a.stack

-- the line with y right behind p
abbrev pub put_behind : ℕ → ℕ → List ℕ → List ℕ
put_behind p y [] = []
put_behind p y (x ∷ xs) = if x == p then x ∷ (y ∷ xs) else x ∷ put_behind p y xs

-- the line of the names below n
abbrev pub line : (ℕ → ℕ) → ℕ → ℕ → List ℕ
line parent r zero = r ∷ []
line parent r (suc y) = put_behind (parent y) y (line parent r y)

-- next leads from each entry to the one behind it
abbrev pub Links : (ℕ → ℕ) → List ℕ → Type 0
Links next [] = Unit {0}
Links next (x ∷ []) = Unit {0}
Links next (x ∷ (y ∷ ys)) = (next x ≡ y) × Links next (y ∷ ys)

-- the parent of each name, by its list
abbrev pub parent_in : List ℕ → ℕ → ℕ
parent_in parents y = slice_index_or parents y 0

-- each name's parent is older, or it has none
abbrev pub IsTree : List ℕ → Type 0
IsTree parents = (y : ℕ) → y < length parents → (slice_index_or parents y 0 < y)
    ⊎ (slice_index_or parents y 0 ≡ length parents)

-- next leads along the line of all names
pub record AreLinks (next parents : List ℕ) : Type 0 where
  pub count : length next ≡ length parents + 1
  pub links : Links (λ y. slice_index_or next y 0) (line (parent_in parents) (length parents) (length parents))

-- the places of the names: they fall along the line, down to 0
pub record ArePlaces (places parents : List ℕ) : Type 0 where
  pub count : length places ≡ length parents
  pub fall : (k : ℕ)
      → k < length parents
      → slice_index_or places (slice_index_or (line (parent_in parents) (length parents) (length parents)) (k + 1) 0) 0
      ≡ length parents - 1 - k
