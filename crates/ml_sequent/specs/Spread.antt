-- Spreads, and what is asked of them: clashes, open or-nodes, diamonds.
--
-- A spread is what a set of nodes comes to at one state, under a choice. As a value it is an ascending list of nodes with
-- the choice under which they were found; it is the spread of its own nodes.
--
--   SpreadList            == an ascending list of nodes, and a choice
--   IsSpreadOf g C c sp   == sp has the choice c, and exactly the nodes of the spread of C
--   IsSpread g sp         == sp is a spread in g
--   IsCause g sp x        == x is a cause of a clash in sp: False; both literals of a proposition; or a node of odd
--                            priority on a closed local walk, of at least one move, through nodes of no lower priority
--   IsOpenNode g c n      == n is an or-node without a choice
--   IsOpenOr g sp n       == it is one of the spread
--   IsLeastOpenOr g sp n  == the least such node
--   is_diamond x          == is x a Diamond?
use Rattle.std.specs.Prelude.{ℕ, ◌≡◌, ◌<◌, ◌≤◌, ◌%◌, ◌↔◌, Bool, true, false, List, None}
use Rattle.ml_lists.specs.Ascending.{IsAscending}
use Rattle.ml_lists.specs.Member.{IsMember}
use Rattle.ml_graph.specs.declared.node.Node.{Node}
use Rattle.ml_graph.specs.declared.node.Node.TheVariants as node
use Rattle.ml_graph.specs.Graph.{Graph, size, node_at, priority_at}
use Rattle.ml_sequent.specs.declared.choice.Side.{Side}
use Rattle.ml_sequent.specs.declared.clashes.ClashCause.{ClashCause}
use Rattle.ml_sequent.specs.declared.clashes.ClashCause.TheVariants as cause
use Rattle.ml_sequent.specs.Choice.{side_of}
use Rattle.ml_sequent.specs.LocalWalk.{LocalWalk, InSpread, children}

-- an ascending list of nodes, and a choice
pub record SpreadList : Type 0 where
  pub nodes : List ℕ
  pub choice : List (ℕ × Side)

-- the spread of the nodes C under the choice c
pub record IsSpreadOf (g : Graph) (C : List ℕ) (c : List (ℕ × Side)) (sp : SpreadList) : Type 0 where
  pub choice : sp.choice ≡ c
  pub ascends : IsAscending sp.nodes
  pub low : (m : ℕ) → IsMember m sp.nodes → m < size g
  pub nodes : (m : ℕ) → IsMember m sp.nodes ↔ InSpread g c C m

-- a spread in g: that of its own nodes
abbrev pub IsSpread : Graph → SpreadList → Type 0
IsSpread g sp = IsSpreadOf g sp.nodes sp.choice sp

-- a closed local walk from n, of at least one move, through nodes of n's priority or more
pub record OnCycle (g : Graph) (c : List (ℕ × Side)) (n : ℕ) : Type 0 where
  pub next : ℕ
  pub child : IsMember next (children g c n)
  pub lowest : ℕ
  pub walk : LocalWalk g c next lowest n
  pub high : priority_at g n ≤ lowest

-- a node of odd priority on such a walk
abbrev pub IsOddCycle : Graph → List (ℕ × Side) → ℕ → Type 0
IsOddCycle g c n = (priority_at g n % 2 ≡ 1) × OnCycle g c n

-- two literals of one proposition, the positive one first
pub record IsPair (g : Graph) (p q : ℕ) : Type 0 where
  pub prop : ℕ
  pub positive : node_at g p ≡ node.Lit prop true
  pub negative : node_at g q ≡ node.Lit prop false

-- a cause of a clash in the spread
abbrev pub IsCause : Graph → SpreadList → ClashCause → Type 0
IsCause g sp (cause.False n) = IsMember n sp.nodes × (node_at g n ≡ node.False)
IsCause g sp (cause.Pair p q) = IsMember p sp.nodes × IsMember q sp.nodes × IsPair g p q
IsCause g sp (cause.Cycle n) = IsMember n sp.nodes × IsOddCycle g sp.choice n

-- node n is an or-node without a choice
pub record IsOpenNode (g : Graph) (c : List (ℕ × Side)) (n : ℕ) : Type 0 where
  pub left : ℕ
  pub right : ℕ
  pub is_or : node_at g n ≡ node.Or left right
  pub unchosen : side_of c n ≡ None

-- it is one of the spread
pub record IsOpenOr (g : Graph) (sp : SpreadList) (n : ℕ) : Type 0 where
  pub member : IsMember n sp.nodes
  pub is_open : IsOpenNode g sp.choice n

-- the least such node
pub record IsLeastOpenOr (g : Graph) (sp : SpreadList) (n : ℕ) : Type 0 where
  pub is_open : IsOpenOr g sp n
  pub least : (m : ℕ) → m < n → IsOpenOr g sp m → ⊥

-- is the node a Diamond?
abbrev pub is_diamond : Node → Bool
is_diamond (node.Diamond a to) = true
is_diamond _ = false
