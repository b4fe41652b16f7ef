-- The checking game of a graph and a structure, and where the graph holds.
--
-- Even wants to show that a node holds at a state, and Odd that it does not. A vertex of the game is a pair of a state
-- and a node, or one of two sinks. At a pair the node says who moves, and to which pairs; where there is nothing to
-- move to, or the node is a literal or a constant, the game is decided and goes to a sink for ever. A pair has the
-- priority of its node. Structures and graphs may be of any size.
--
--   Vertex            == a pair of a state and a node, or the sink of a priority
--   vertex_number g m v == its number: state * size + node for a pair, and the sinks of 0 and 1 behind all pairs
--   mover v           == who owns a vertex with this node: Odd moves at And and Square, Even elsewhere
--   targets m s a     == where the edges of action a lead from the state s, in the order of the edges
--   successors g m v  == the vertices to which the vertex v leads
--   vertices g m      == all vertices, in the order of their numbers
--   checking_game g m == the game
--   HoldsAt g m s n   == Even wins the pair of the state s and the node n
--   Holds g m s       == the graph holds at s: Even wins the pair of s and the root
use Rattle.std.specs.Prelude.{ℕ, ◌+◌, ◌*◌, ◌==◌, ◌&&◌, if◌then◌else◌, List, [], ◌∷◌, ◌++◌, map, filter}
use Rattle.std.specs.Bool.{beq}
use Rattle.std.specs.List.{flat_map, range_with_len}
use Rattle.std.specs.Str.{bytes_eq}
use Rattle.ml_base.specs.Structure.{Structure, lists}
use Rattle.ml_parity.specs.declared.players.Player.{Player}
use Rattle.ml_parity.specs.declared.players.Player.TheVariants.{Even, Odd}
use Rattle.ml_parity.specs.Game.{ParityGame}
use Rattle.ml_parity.specs.Winner.{Wins}
use Rattle.ml_graph.specs.declared.node.Node.{Node}
use Rattle.ml_graph.specs.declared.node.Node.TheVariants as node
use Rattle.ml_graph.specs.Graph.{Graph, size, node_at, priority_at, prop_at, action_at}

-- a pair of a state and a node, or the sink of a priority
pub data Vertex : Type 0 where
  Pair : (state node : ℕ) → Vertex
  Sink : (priority : ℕ) → Vertex

-- pairs are numbered state by state, and the sinks of 0 and 1 come behind them
abbrev pub vertex_number : Graph → Structure → Vertex → ℕ
vertex_number g m (Pair s n) = s * size g + n
vertex_number g m (Sink p) = m.states * size g + p

-- who owns a vertex with this node
abbrev pub mover : Node → Player
mover node.True = Even
mover node.False = Even
mover (node.Lit p positive) = Even
mover (node.And l r) = Odd
mover (node.Or l r) = Even
mover (node.Diamond a to) = Even
mover (node.Square a to) = Odd

-- who owns a vertex
abbrev pub owner_at : Graph → Vertex → Player
owner_at g (Pair s n) = mover (node_at g n)
owner_at g (Sink p) = Even

-- the priority of a vertex
abbrev pub priority_at_vertex : Graph → Vertex → ℕ
priority_at_vertex g (Pair s n) = priority_at g n
priority_at_vertex g (Sink p) = p

-- where the edges of action a lead from the state s
abbrev pub targets : Structure → ℕ → List ℕ → List ℕ
targets m s a = map (λ e. e.target) (filter (λ e. (e.source == s) && bytes_eq e.action a) m.edges)

-- the pairs of these states and the node, or the sink of this priority if there are none
abbrev pub pairs_or_sink : ℕ → ℕ → List ℕ → List Vertex
pairs_or_sink n p [] = Sink p ∷ []
pairs_or_sink n p (s ∷ ss) = map (λ t. Pair t n) (s ∷ ss)

-- the vertices to which a pair with this state and node leads
abbrev pub successors_of : Graph → Structure → ℕ → Node → List Vertex
successors_of g m s node.True = Sink 0 ∷ []
successors_of g m s node.False = Sink 1 ∷ []
successors_of g m s (node.Lit p positive) = Sink (if beq (lists m s (prop_at g p)) positive then 0 else 1) ∷ []
successors_of g m s (node.And l r) = Pair s l ∷ Pair s r ∷ []
successors_of g m s (node.Or l r) = Pair s l ∷ Pair s r ∷ []
successors_of g m s (node.Diamond a to) = pairs_or_sink to 1 (targets m s (action_at g a))
successors_of g m s (node.Square a to) = pairs_or_sink to 0 (targets m s (action_at g a))

-- the vertices to which a vertex leads: a sink to itself alone
abbrev pub successors : Graph → Structure → Vertex → List Vertex
successors g m (Pair s n) = successors_of g m s (node_at g n)
successors g m (Sink p) = Sink p ∷ []

-- the pairs with the state s
abbrev pub pairs_at : Graph → ℕ → List Vertex
pairs_at g s = map (Pair s) (range_with_len 0 (size g))

-- all vertices, in the order of their numbers
abbrev pub vertices : Graph → Structure → List Vertex
vertices g m = flat_map (pairs_at g) (range_with_len 0 m.states) ++ Sink 0 ∷ Sink 1 ∷ []

-- the checking game
abbrev pub checking_game : Graph → Structure → ParityGame
checking_game g m = record {
  owner = map (owner_at g) (vertices g m);
  priority = map (priority_at_vertex g) (vertices g m);
  successors = map (λ v. map (vertex_number g m) (successors g m v)) (vertices g m);
}

-- Even wins the pair of the state s and the node n
abbrev pub HoldsAt : Graph → Structure → ℕ → ℕ → Type 0
HoldsAt g m s n = Wins (checking_game g m) Even (vertex_number g m (Pair s n))

-- the graph holds at the state s
abbrev pub Holds : Graph → Structure → ℕ → Type 0
Holds g m s = HoldsAt g m s g.root
