-- Values that are reached from a root, numbered in the order in which they are met, and the nodes that are made of them.
--
-- Each value has a form that leads to other values, and a priority. Values are numbered breadth first, from the root, which is
-- 0, the left child before the right one. A node is made of each value in turn: its children get numbers unless they have some.
-- At most `max` values are numbered. Names of propositions stand in a list, in which a literal has its place.
--
--   Tells eq              == the test eq tells equal values
--   constant_of b         == the node of a constant
--   pair_of b i j, edge_of b i == the node of an and, or else an or; of a diamond, or else a square
--   children_of f         == the values to which a form leads
--   Numbers f xs ys v     == the values to which f leads got numbers, so that xs became ys, and v is the node of f
--   IsFull max xs x       == x would be one value too many
--   Overflows max xs f    == so would a value to which f leads
--   IsPut f k xs ys vs ws ps qs == behind the nodes vs and the priorities ps the node of the form f is put, with the priority k
--   HasFormIn xs v f      == v is the node of f, where xs are the values by their numbers
--   IsMet F root p        == the value p is reached from the root, by the forms F
--   IsDraft F K root max xs vs ps == xs are values by their numbers, `root` the first, and vs and ps the first nodes, by the
--                            forms F, and priorities, by K, so far
--   IsClosed F K root max vs ps == these are the nodes and priorities of all values that are met, at most `max`
--   IsStep F K xs ys vs ws ps qs == one node more was made
--   HasNoRoom F max xs n  == the value with the number n leads to one too many
--   IsTooLarge F root max == more values are met
use Rattle.std.specs.Prelude.{ℕ, ◌≡◌, ◌≤◌, ◌<◌, ◌⊎◌, Bool, true, if◌then◌else◌, List, [], ◌∷◌, ◌++◌, Some, length, map, get_or, slice_get}
use Rattle.std.specs.List.{flat_map}
use Rattle.ml_lists.specs.Added.{IsAdded, HasOnePlace}
use Rattle.ml_lists.specs.InTurn.{RunsOn}
use Rattle.ml_lists.specs.Member.{IsMember}
use Rattle.ml_graph.specs.declared.node.Node.{Node}
use Rattle.ml_graph.specs.declared.node.Node.TheVariants as node
use Rattle.ml_nodes.specs.ClosureGraph.{row_of}
use Rattle.ml_nodes.specs.declared.numbering.Form.{Form}
use Rattle.ml_nodes.specs.declared.numbering.Form.TheVariants as form

pub record Tells {X : Type 0} (eq : X → X → Bool) : Type 0 where
  pub same : (x y : X) → eq x y ≡ true → x ≡ y
  pub own : (x : X) → eq x x ≡ true

-- ---- a node

abbrev pub constant_of : Bool → Node
constant_of b = if b then node.True else node.False

abbrev pub pair_of : Bool → (i j : ℕ) → Node
pair_of b i j = if b then node.And i j else node.Or i j

abbrev pub edge_of : Bool → ℕ → Node
edge_of b i = if b then node.Diamond 0 i else node.Square 0 i

module _ {X : Type 0} where
  abbrev pub children_of : Form X → List X
  children_of (form.Constant b) = []
  children_of (form.Literal p b) = []
  children_of (form.Two b l r) = l ∷ r ∷ []
  children_of (form.Twice b x) = x ∷ []
  children_of (form.Edge b x) = x ∷ []

  pub record NumbersTwo (b : Bool) (l r : X) (xs ys : List X) (v : Node) : Type 0 where
    pub between : List X
    pub left : ℕ
    pub right : ℕ
    pub first : IsAdded xs l between left
    pub second : IsAdded between r ys right
    pub is : v ≡ pair_of b left right

  pub record NumbersOne (x : X) (xs ys : List X) (v : ℕ → Node) (w : Node) : Type 0 where
    pub to : ℕ
    pub added : IsAdded xs x ys to
    pub is : w ≡ v to

  abbrev pub Numbers : Form X → (xs ys : List X) → Node → Type 0
  Numbers (form.Constant b) xs ys v = (ys ≡ xs) × (v ≡ constant_of b)
  Numbers (form.Literal p b) xs ys v = (ys ≡ xs) × (v ≡ node.Lit p b)
  Numbers (form.Two b l r) xs ys v = NumbersTwo b l r xs ys v
  Numbers (form.Twice b x) xs ys v = NumbersOne x xs ys (λ i. pair_of b i i) v
  Numbers (form.Edge b x) xs ys v = NumbersOne x xs ys (edge_of b) v

  pub record IsFull (max : ℕ) (xs : List X) (x : X) : Type 0 where
    pub full : length xs ≡ max
    pub is_new : ¬ (IsMember x xs)

  pub record FillsFirst (max : ℕ) (xs : List X) (l r : X) : Type 0 where
    pub between : List X
    pub left : ℕ
    pub first : IsAdded xs l between left
    pub full : IsFull max between r

  abbrev pub Overflows : ℕ → List X → Form X → Type 0
  Overflows max xs (form.Constant b) = ⊥
  Overflows max xs (form.Literal p b) = ⊥
  Overflows max xs (form.Two b l r) = IsFull max xs l ⊎ FillsFirst max xs l r
  Overflows max xs (form.Twice b x) = IsFull max xs x
  Overflows max xs (form.Edge b x) = IsFull max xs x

  pub record IsPut (f : Form X) (k : ℕ) (xs ys : List X) (vs ws : List Node) (ps qs : List ℕ) : Type 0 where
    pub node : Node
    pub numbers : Numbers f xs ys node
    pub nodes : ws ≡ vs ++ node ∷ []
    pub priorities : qs ≡ ps ++ k ∷ []

  abbrev pub HasFormIn : List X → Node → Form X → Type 0
  HasFormIn xs v (form.Constant b) = v ≡ constant_of b
  HasFormIn xs v (form.Literal p b) = v ≡ node.Lit p b
  HasFormIn xs v (form.Two b l r) =
      (i j : ℕ) × (slice_get xs i ≡ Some l) × (slice_get xs j ≡ Some r) × (v ≡ pair_of b i j)
  HasFormIn xs v (form.Twice b x) = (i : ℕ) × (slice_get xs i ≡ Some x) × (v ≡ pair_of b i i)
  HasFormIn xs v (form.Edge b x) = (i : ℕ) × (slice_get xs i ≡ Some x) × (v ≡ edge_of b i)

-- ---- all nodes

module _ {X : Type 0} (F : X → Form X) where
  pub data IsMet (root : X) : X → Type 0 where
    at_root : IsMet root root
    behind : (x y : X) → IsMet root x → IsMember y (children_of (F x)) → IsMet root y

  pub record IsMade (K : X → ℕ) (xs : List X) (vs : List Node) (ps : List ℕ) (n : ℕ) : Type 0 where
    pub value : X
    pub at : slice_get xs n ≡ Some value
    pub has_form : HasFormIn xs (get_or vs n node.True) (F value)
    pub priority : get_or ps n 0 ≡ K value

  pub record IsDraft (K : X → ℕ) (root : X) (max : ℕ) (xs : List X) (vs : List Node) (ps : List ℕ) : Type 0 where
    pub once : HasOnePlace xs
    pub begins : slice_get xs 0 ≡ Some root
    pub are_met : (n : ℕ) (x : X) → slice_get xs n ≡ Some x → IsMet root x
    pub few : length xs ≤ max
    pub short : length vs ≤ length xs
    pub as_many : length ps ≡ length vs
    pub made : (n : ℕ) → n < length vs → IsMade K xs vs ps n
    pub runs_on : RunsOn 0 (0 ∷ flat_map (λ r. r) (map row_of vs)) (length xs)
    pub from_earlier : (k : ℕ) → 0 < k → k < length xs → (j : ℕ) × (j < k) × IsMember k (get_or (map row_of vs) j [])

  pub record IsClosed (K : X → ℕ) (root : X) (max : ℕ) (vs : List Node) (ps : List ℕ) : Type 0 where
    pub values : List X
    pub draft : IsDraft K root max values vs ps
    pub whole : length vs ≡ length values

  pub record IsStep (K : X → ℕ) (xs ys : List X) (vs ws : List Node) (ps qs : List ℕ) : Type 0 where
    pub value : X
    pub at : slice_get xs (length vs) ≡ Some value
    pub put : IsPut (F value) (K value) xs ys vs ws ps qs

  pub record HasNoRoom (max : ℕ) (xs : List X) (n : ℕ) : Type 0 where
    pub value : X
    pub at : slice_get xs n ≡ Some value
    pub full : Overflows max xs (F value)

  -- some values that are met, each once, are more
  pub record IsTooLarge (root : X) (max : ℕ) : Type 0 where
    pub values : List X
    pub once : HasOnePlace values
    pub are_met : (n : ℕ) (x : X) → slice_get values n ≡ Some x → IsMet root x
    pub more : max < length values
