-- Claims that nodes hold at states, with ranks, and when they are kept.
--
-- Each pair of a state and a node has a rank, from 1 on where it is claimed that the node holds there, and else 0. A claim is
-- kept where what it takes for the node to hold is claimed in turn, one step on, and the rank doesn't rise along such a step,
-- and falls where the node that is left has an odd priority. At a node of priority 0 ranks may rise: a cycle through it is good
-- for Even.
--
--   rank_of g rs s n        == the rank of the state s and the node n
--   Leads p r q             == a step from a pair of priority p and rank r may lead to one of rank q
--   LeadsTo g rs s n t k    == so may one from the state s and the node n to the state t and the node k
--   NodeIsKept g m rs s n x == of n, which is the node x, claimed at s: what it takes for it to hold is claimed
--   StandsBeside g m rs s n x == the same, but of a square nothing is said
--   SquareIsKept g rs e n x == of n, which is the node x, the same along the edge e, if x is a square
--   AllStandAt g m rs s     == so it is beside of each node that is claimed at s
--   SquaresLead g rs e      == so it is along e of each node
--   AreKept g m rs          == each claim is kept
use Rattle.std.specs.Prelude.{ℕ, ◌≡◌, ◌+◌, ◌*◌, ◌<◌, ◌≤◌, ◌%◌, ◌⊎◌, true, List, get_or, Contains}
use Rattle.std.specs.Str.{bytes_eq}
use Rattle.ml_base.specs.declared.structure.Edge.{Edge}
use Rattle.ml_base.specs.Structure.{Structure, lists}
use Rattle.ml_graph.specs.CheckingGame.{targets}
use Rattle.ml_graph.specs.Graph.{Graph, size, node_at, priority_at, prop_at, action_at}
use Rattle.ml_graph.specs.declared.node.Node.{Node}
use Rattle.ml_graph.specs.declared.node.Node.TheVariants as node

abbrev pub rank_of : Graph → List ℕ → ℕ → ℕ → ℕ
rank_of g rs s n = get_or rs (s * size g + n) 0

-- the pair behind the step is claimed, and its rank is no higher, and lower where p is odd
abbrev pub Leads : ℕ → ℕ → ℕ → Type 0
Leads p r q = (0 < q) × ((p ≡ 0) ⊎ ((q ≤ r) × ((p % 2 ≡ 0) ⊎ (q < r))))

abbrev pub LeadsTo : Graph → List ℕ → ℕ → ℕ → ℕ → ℕ → Type 0
LeadsTo g rs s n t k = Leads (priority_at g n) (rank_of g rs s n) (rank_of g rs t k)

abbrev pub NodeIsKept : Graph → Structure → List ℕ → ℕ → ℕ → Node → Type 0
NodeIsKept g m rs s n node.True = Unit {0}
NodeIsKept g m rs s n node.False = ⊥
NodeIsKept g m rs s n (node.Lit p positive) = lists m s (prop_at g p) ≡ positive
NodeIsKept g m rs s n (node.And l r) = LeadsTo g rs s n s l × LeadsTo g rs s n s r
NodeIsKept g m rs s n (node.Or l r) = LeadsTo g rs s n s l ⊎ LeadsTo g rs s n s r
NodeIsKept g m rs s n (node.Diamond a to) =
    (t : ℕ) × Contains (targets m s (action_at g a)) t × LeadsTo g rs s n t to
NodeIsKept g m rs s n (node.Square a to) =
    (t : ℕ) → Contains (targets m s (action_at g a)) t → LeadsTo g rs s n t to

abbrev pub StandsBeside : Graph → Structure → List ℕ → ℕ → ℕ → Node → Type 0
StandsBeside g m rs s n (node.Square a to) = Unit {0}
StandsBeside g m rs s n x = NodeIsKept g m rs s n x

abbrev pub SquareIsKept : Graph → List ℕ → Edge → ℕ → Node → Type 0
SquareIsKept g rs e n (node.Square a to) =
    0 < rank_of g rs e.source n → bytes_eq e.action (action_at g a) ≡ true → LeadsTo g rs e.source n e.target to
SquareIsKept g rs e n x = Unit {0}

abbrev pub AllStandAt : Graph → Structure → List ℕ → ℕ → Type 0
AllStandAt g m rs s = (n : ℕ) → n < size g → 0 < rank_of g rs s n → StandsBeside g m rs s n (node_at g n)

abbrev pub SquaresLead : Graph → List ℕ → Edge → Type 0
SquaresLead g rs e = (n : ℕ) → n < size g → SquareIsKept g rs e n (node_at g n)

abbrev pub AreKept : Graph → Structure → List ℕ → Type 0
AreKept g m rs =
    (s n : ℕ) → s < m.states → n < size g → 0 < rank_of g rs s n → NodeIsKept g m rs s n (node_at g n)
