-- Where local walks leave a spread along a diamond. Only private contracts and proofs cite what stands here.
--
--   exit_of a d e x   == the child to which node e, which is x, leads out along the diamond d of action a, if it does
--   exit_at g a d e   == that of the node e of the graph
--   triples_to from lowest nodes == the triples from a node to these, with one lowest priority
--   exits g prios a d from v == the triple that the place v gives, if its node leads out; v was reached from `from`
--   action_of x       == the action of a Diamond
--   IsTraceFrom g c a d t == some local walk from t.from with the lowest priority t.lowest leads out to t.to
--   AreTracesFrom g c d nodes ts == ts are the triples of the local walks from these nodes that lead out along d
use Rattle.std.specs.Prelude.{ℕ, ◌≡◌, ◌==◌, ◌↔◌, List, [], ◌∷◌, Option, Some, None, get_or, if◌then◌else◌, map}
use Rattle.ml_lists.specs.Member.{IsMember}
use Rattle.ml_graph.specs.declared.node.Node.{Node}
use Rattle.ml_graph.specs.declared.node.Node.TheVariants as node
use Rattle.ml_graph.specs.Graph.{Graph, node_at}
use Rattle.ml_trace.specs.declared.letters.Triple.{Triple}
use Rattle.ml_sequent.specs.declared.choice.Side.{Side}
use Rattle.ml_sequent.specs.declared.reach.Visit.{Visit}
use Rattle.ml_sequent.specs.LocalWalk.{LocalWalk}

-- the child to which the node leads out, if it does
abbrev pub exit_of : (a d e : ℕ) → Node → Option ℕ
exit_of a d e node.True = None
exit_of a d e node.False = None
exit_of a d e (node.Lit p positive) = None
exit_of a d e (node.And l r) = None
exit_of a d e (node.Or l r) = None
exit_of a d e (node.Diamond b to) = if e == d then Some to else None
exit_of a d e (node.Square b to) = if b == a then Some to else None

-- that of a node of the graph
abbrev pub exit_at : Graph → (a d e : ℕ) → Option ℕ
exit_at g a d e = exit_of a d e (node_at g e)

-- the triple from a node to where a place leads out, if it does
abbrev pub triple_to : (from lowest : ℕ) → Option ℕ → List Triple
triple_to from lowest None = []
triple_to from lowest (Some to) = record { from = from; lowest = lowest; to = to } ∷ []

-- the triples from a node to these, with one lowest priority
abbrev pub triples_to : (from lowest : ℕ) → List ℕ → List Triple
triples_to from lowest nodes = map (λ to. record { from = from; lowest = lowest; to = to }) nodes

abbrev pub exits : Graph → List ℕ → (a d from : ℕ) → Visit → List Triple
exits g prios a d from v = triple_to from (get_or prios v.rank 0) (exit_of a d v.node (node_at g v.node))

-- the action of a Diamond; of others, of which nobody asks, the first action
abbrev pub action_of : Node → ℕ
action_of node.True = 0
action_of node.False = 0
action_of (node.Lit p positive) = 0
action_of (node.And l r) = 0
action_of (node.Or l r) = 0
action_of (node.Diamond a to) = a
action_of (node.Square a to) = 0

-- some local walk leads out along the diamond
pub record IsTraceFrom (g : Graph) (c : List (ℕ × Side)) (a d : ℕ) (t : Triple) : Type 0 where
  pub leaving : ℕ
  pub walk : LocalWalk g c t.from t.lowest leaving
  pub leads : exit_of a d leaving (node_at g leaving) ≡ Some t.to

-- the triples of all local walks from these nodes that lead out along the diamond
abbrev pub AreTracesFrom : Graph → List (ℕ × Side) → ℕ → List ℕ → List Triple → Type 0
AreTracesFrom g c d nodes traces = (t : Triple) → IsMember t traces
    ↔ (IsMember t.from nodes × IsTraceFrom g c (action_of (node_at g d)) d t)
