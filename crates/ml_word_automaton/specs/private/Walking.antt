-- How a program walks under a letter, of which it knows the numbers of the propositions that are true.
--
--   is_true_node present v    == the node v is True, or a literal that is true
--   onward g present n        == the nodes to which a walk goes on from n
--   moves g numbers p n       == the transitions of the state number p with which a walk ends at n
--   Comes next p n            == a walk along `next` leads from p to n
--   last seen n               == the state from which a walk came to n last
--   is_last p o               == o is that state
--   Ends next ends p t        == a walk from p ends with the transition t
--   IsSeenMore p before seen  == nodes were seen since, from the state p
--   IsWalk                    == a walk from the state number p is under way
--   AreAdded next ends s old ts == the transitions with which walks from s end were added
--   AreThoseBelow i           == so were those of the first i states
use Rattle.std.specs.Prelude.{ℕ, ◌≡◌, ◌⊎◌, ◌<◌, ◌↔◌, ◌==◌, ◌||◌, Bool, true, false, not, if◌then◌else◌, List, [], ◌∷◌, Option, Some, None, length, get_or}
use Rattle.std.specs.Bool.{beq}
use Rattle.std.specs.List.{list_any}
use Rattle.ml_lists.specs.Counting.{count}
use Rattle.ml_lists.specs.Member.{IsMember}
use Rattle.ml_graph.specs.Graph.{Graph, node_at, priority_at}
use Rattle.ml_graph.specs.declared.node.Node.{Node}
use Rattle.ml_graph.specs.declared.node.Node.TheVariants as node
use Rattle.ml_trace.specs.declared.letters.Transition.{Transition}

-- ---- one node

abbrev pub has_number : List ℕ → ℕ → Bool
has_number present p = list_any (λ q. q == p) present

abbrev pub is_true_node : List ℕ → Node → Bool
is_true_node present node.True = true
is_true_node present (node.Lit p positive) = beq (has_number present p) positive
is_true_node present _ = false

abbrev pub onward_at : Graph → List ℕ → Node → List ℕ
onward_at g present (node.And l r) =
    if (l == r) || is_true_node present (node_at g l) then r ∷ [] else []
onward_at g present (node.Or l r) = l ∷ r ∷ []
onward_at g present _ = []

-- the nodes to which a walk goes on from n
abbrev pub onward : Graph → List ℕ → ℕ → List ℕ
onward g present n = onward_at g present (node_at g n)

abbrev pub moves_at : Graph → List ℕ → (p n : ℕ) → Node → List Transition
moves_at g numbers p n (node.Diamond a q) =
    record { from = p; to = get_or numbers q 0; accepting = priority_at g n == 0 } ∷ []
moves_at g numbers p n node.True = record { from = p; to = get_or numbers n 0; accepting = true } ∷ []
moves_at g numbers p n _ = []

-- the transitions of the state number p with which a walk ends at n
abbrev pub moves : Graph → List ℕ → (p n : ℕ) → List Transition
moves g numbers p n = moves_at g numbers p n (node_at g n)

-- ---- walks

pub data Comes (next : ℕ → List ℕ) (p : ℕ) : ℕ → Type 0 where
  itself : Comes next p p
  further : (n m : ℕ) → Comes next p n → IsMember m (next n) → Comes next p m

-- a walk from p ends with the transition t
pub record Ends (next : ℕ → List ℕ) (ends : ℕ → List Transition) (p : ℕ) (t : Transition) : Type 0 where
  pub at : ℕ
  pub comes : Comes next p at
  pub is_one : IsMember t (ends at)

-- ---- what was seen

-- the state from which a walk came last to the node n
abbrev pub last : List (Option ℕ) → ℕ → Option ℕ
last seen n = get_or seen n None

abbrev pub is_last : ℕ → Option ℕ → Bool
is_last p None = false
is_last p (Some q) = q == p

-- how many nodes a walk from the state p has not come to
abbrev pub unseen : ℕ → List (Option ℕ) → ℕ
unseen p seen = count (λ n. not (is_last p (last seen n))) (length seen)

-- what was seen since, from the state p
pub record IsSeenMore (p : ℕ) (before seen : List (Option ℕ)) : Type 0 where
  pub as_long : length seen ≡ length before
  pub others : (n q : ℕ) → last seen n ≡ Some q → (last before n ≡ Some q) ⊎ (q ≡ p)

-- a walk from the state number p, at node s, is under way, since `before` was seen and `old` were the transitions
pub record IsWalk (next : ℕ → List ℕ) (ends : ℕ → List Transition) (p s : ℕ)
    (before : List (Option ℕ)) (old : List Transition)
    (seen : List (Option ℕ)) (waiting : List ℕ) (ts : List Transition) : Type 0 where
  pub seen_more : IsSeenMore p before seen
  pub seen_come : (n : ℕ) → last seen n ≡ Some p → Comes next s n
  pub waiting_come : (n : ℕ) → IsMember n waiting → Comes next s n
  pub started : (last seen s ≡ Some p) ⊎ IsMember s waiting
  pub closed : (n m : ℕ) → last seen n ≡ Some p → IsMember m (next n) → (last seen m ≡ Some p) ⊎ IsMember m waiting
  pub transitions : (t : Transition)
      → IsMember t ts ↔ (IsMember t old ⊎ ((n : ℕ) × (last seen n ≡ Some p) × IsMember t (ends n)))

-- the transitions with which walks from s end are added
abbrev pub AreAdded : (ℕ → List ℕ) → (ℕ → List Transition) → ℕ → (old ts : List Transition) → Type 0
AreAdded next ends s old ts = (t : Transition) → IsMember t ts ↔ (IsMember t old ⊎ Ends next ends s t)

-- the transitions of the first i states
abbrev pub AreThoseBelow : ℕ → (ℕ → List ℕ) → (ℕ → ℕ → List Transition) → List ℕ → List Transition → Type 0
AreThoseBelow i next ends states ts =
    (t : Transition) → IsMember t ts ↔ ((p : ℕ) × (p < i) × Ends next (ends p) (get_or states p 0) t)
