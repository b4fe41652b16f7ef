-- Histories as trees, as plain data.
--
-- A history is a tree with a vertex for each name in use; a state lies at the vertex at which its stack ends, and its
-- stack is the way from the root down to this vertex. Vertices that have one parent are siblings. They stand in a row,
-- the older ones first, and such a row is a forest: its first vertex, with the forest of its children, and the forest
-- of its younger siblings. So one simple type serves for vertices and for rows of them. Only the states whose stack
-- ends at a vertex are kept there; the states in its subtree are the label that the literature gives it.
--
--   Forest          == Empty, or Tree age own children younger: the first of some siblings, with its age, the states
--                      that lie at it, its children, and its younger siblings
--   names f         == the ages of the vertices of f, children first, then the vertex, then its younger siblings
--   states f        == the states that lie at the vertices of f, in the same order
--   places f        == these states with their stacks, from the roots of f down
--   put_in a ts     == the items ts with a, before the first item with a greater state
--   arranged ts     == the items ts by ascending states
--   items f         == what the tree f stands for: its states with their stacks, by ascending states
--   AgesRise x f    == each age of f is at least x; that of a child is above that of its parent, and that of a vertex
--                      above those of its older siblings
--   OwnsAreSets f   == at each vertex lies some state, and they ascend
--   HasOneRoot f    == f has one root, or is empty
--   IsProper f      == f is the tree of a history
use Rattle.std.specs.Prelude.{◌≡◌, ◌≢◌, ℕ, ◌+◌, ◌<◌, ◌≤◌, if◌then◌else◌, nat_lt, List, [], ◌∷◌, ◌++◌, map}
use Rattle.ml_lists.specs.Ascending.{IsAscending}
use Rattle.ml_lists.specs.Member.{IsMember}
use Rattle.ml_lists.specs.Times.{IsApart}
use Rattle.ml_trace.specs.Stack.{Item}

-- no vertex; or the first of some siblings: its age, the states that lie at it, its children, its younger siblings
pub data Forest : Type 0 where
  Empty : Forest
  Tree : ℕ → List ℕ → Forest → Forest → Forest

-- the ages of the vertices, each behind those of its children
abbrev pub names : Forest → List ℕ
names Empty = []
names (Tree age own children younger) = names children ++ age ∷ names younger

-- the states that lie at the vertices, in the same order
abbrev pub states : Forest → List ℕ
states Empty = []
states (Tree age own children younger) = states children ++ (own ++ states younger)

-- the item of a state with this stack
abbrev pub lies_at : List ℕ → ℕ → Item ℕ
lies_at stack q = record { state = q; stack = stack }

-- an item of the children of a vertex of the age x, seen from this vertex on
abbrev pub below : ℕ → Item ℕ → Item ℕ
below x a = record { state = a.state; stack = x ∷ a.stack }

-- the states with their stacks, from the roots of the forest down
abbrev pub places : Forest → List (Item ℕ)
places Empty = []
places (Tree age own children younger) =
    map (below age) (places children) ++ (map (lies_at (age ∷ [])) own ++ places younger)

-- the items with a, before the first item with a greater state
abbrev pub put_in : Item ℕ → List (Item ℕ) → List (Item ℕ)
put_in a [] = a ∷ []
put_in a (b ∷ bs) = if nat_lt a.state b.state then a ∷ (b ∷ bs) else b ∷ put_in a bs

-- the items by ascending states
abbrev pub arranged : List (Item ℕ) → List (Item ℕ)
arranged [] = []
arranged (a ∷ as') = put_in a (arranged as')

-- the states of the tree with their stacks, by ascending states
abbrev pub items : Forest → List (Item ℕ)
items f = arranged (places f)

-- each age is at least x, that of a child above that of its parent, and that of a vertex above those of its older
-- siblings
abbrev pub AgesRise : ℕ → Forest → Type 0
AgesRise x Empty = Unit {0}
AgesRise x (Tree age own children younger) = (x ≤ age) × AgesRise (age + 1) children × AgesRise (age + 1) younger

-- at each vertex lies some state, and they ascend
abbrev pub OwnsAreSets : Forest → Type 0
OwnsAreSets Empty = Unit {0}
OwnsAreSets (Tree age own children younger) = (own ≢ []) × IsAscending own × OwnsAreSets children × OwnsAreSets younger

-- one root, or none
abbrev pub HasOneRoot : Forest → Type 0
HasOneRoot Empty = Unit {0}
HasOneRoot (Tree age own children younger) = younger ≡ Empty

-- f is the tree of a history
pub record IsProper (f : Forest) : Type 0 where
  pub one_root : HasOneRoot f
  -- a child is younger than its parent, and siblings stand by age
  pub ages_rise : AgesRise 0 f
  -- some stack ends at each vertex, so children lie properly inside their parent
  pub owns : OwnsAreSets f
  -- no state has two stacks, so siblings are disjoint
  pub states_apart : IsApart (states f)
  -- the names in use are 0, 1 and so on, each once and without a gap
  pub names_apart : IsApart (names f)
  pub no_gap : (x y : ℕ) → x < y → IsMember y (names f) → IsMember x (names f)
