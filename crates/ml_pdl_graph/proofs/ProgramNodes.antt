-- Programs in a graph, seen by the player who looks for a run.
--
--   star_priority e     == the priority of a star's node, which is bad for that player
--   NodesAt g e i k p   == at the occurrence i, with the sign e, stand the nodes of p, which go on at the node k
--   nodes_of            == where a program stands in a graph, they do with either sign
--   Shown e i f         == the node of f with the sign e is won by the player of that sign where f holds
--   Tests e i p         == so are those of the formulas of all tests of p
use Rattle.std.proofs.Common.{◌≡◌, ℕ, ◌+◌, ◌<◌, Bool, true, false, ◌*◌, ◌≤◌, arith}
use Rattle.ml_base.specs.Structure.{Structure, IsStructure, is_member}
use Rattle.ml_graph.specs.declared.node.Node.TheVariants as node
use Rattle.ml_graph.specs.Graph.{Graph, IsGraph, node_at, priority_at, action_at, size}
use Rattle.ml_pdl.specs.Formula.{Formula, Program, Act, Seq, Alt, Star, Test, program_occurrences, occurrences}
use Rattle.ml_pdl.specs.Meaning.{meaning}
use Rattle.ml_pdl.proofs.SomeOccurrence.{some_occurrence}
use Rattle.ml_nodes.specs.Nodes.{positive, negative}
use Rattle.ml_pdl_graph.specs.PdlGraph.{plain, ProgramStandsAt}
use Rattle.ml_pdl_graph.proofs.Players.{player_of, node_of, own_by, other_by, go_by, Tells, node_range}

abbrev pub star_priority : Bool → ℕ
star_priority true = 3
star_priority false = 2

-- a thing of the diamond, or of the box
abbrev pub turn : Bool → ℕ → ℕ → ℕ
turn true d b = d
turn false d b = b

abbrev pub NodesAt : Graph → Bool → ℕ → ℕ → Program → Type 0
NodesAt g e i k (Act name) =
    (a : ℕ) × (node_at g (node_of e i) ≡ go_by e a k) × (priority_at g (node_of e i) ≡ plain) × (action_at g a ≡ name)
NodesAt g e i k (Seq p q) =
    (node_at g (node_of e i) ≡ node.And (node_of e (i + 1)) (node_of e (i + 1))) × (priority_at g (node_of e i) ≡ plain)
    × NodesAt g e (i + 1) (node_of e (i + 1 + program_occurrences p)) p × NodesAt g e (i + 1 + program_occurrences p) k
    q
NodesAt g e i k (Alt p q) =
    (node_at g (node_of e i) ≡ own_by e (node_of e (i + 1)) (node_of e (i + 1 + program_occurrences p)))
    × (priority_at g (node_of e i) ≡ plain)
    × NodesAt g e (i + 1) k p × NodesAt g e (i + 1 + program_occurrences p) k q
NodesAt g e i k (Star p) =
    (node_at g (node_of e i) ≡ own_by e k (node_of e (i + 1))) × (priority_at g (node_of e i) ≡ star_priority e)
    × NodesAt g e (i + 1) (node_of e i) p
NodesAt g e i k (Test f) =
    (node_at g (node_of e i) ≡ other_by e (node_of e (i + 1)) k) × (priority_at g (node_of e i) ≡ plain)

pub nodes_of : (g : Graph) (e : Bool) (p : Program) (i d b : ℕ)
    → ProgramStandsAt g i d b p
    → NodesAt g e i (turn e d b) p
nodes_of g true (Act name) i d b s = (s.0, s.1.0, s.1.1, s.3)
nodes_of g false (Act name) i d b s = (s.0, s.2.0, s.2.1, s.3)
nodes_of g true (Seq p q) i d b s = (
  s.0.0,
  s.0.1,
  nodes_of g true p (i + 1) (positive (i + 1 + program_occurrences p)) (negative (i + 1 + program_occurrences p)) s.2,
  nodes_of g true q (i + 1 + program_occurrences p) d b s.3,
)
nodes_of g false (Seq p q) i d b s = (
  s.1.0,
  s.1.1,
  nodes_of g false p (i + 1) (positive (i + 1 + program_occurrences p)) (negative (i + 1 + program_occurrences p)) s.2,
  nodes_of g false q (i + 1 + program_occurrences p) d b s.3,
)
nodes_of g true (Alt p q) i d b s =
    (s.0.0, s.0.1, nodes_of g true p (i + 1) d b s.2, nodes_of g true q (i + 1 + program_occurrences p) d b s.3)
nodes_of g false (Alt p q) i d b s =
    (s.1.0, s.1.1, nodes_of g false p (i + 1) d b s.2, nodes_of g false q (i + 1 + program_occurrences p) d b s.3)
nodes_of g true (Star p) i d b s = (s.0.0, s.0.1, nodes_of g true p (i + 1) (positive i) (negative i) s.2)
nodes_of g false (Star p) i d b s = (s.1.0, s.1.1, nodes_of g false p (i + 1) (positive i) (negative i) s.2)
nodes_of g true (Test f) i d b s = s.0
nodes_of g false (Test f) i d b s = s.1

-- a formula's node is won by the player of its sign where the formula holds
abbrev pub Shown : (g : Graph) (m : Structure) → IsGraph g → IsStructure m → Bool → ℕ → Formula → Type 0
Shown g m g_ok m_ok e i f =
    (s : ℕ) → s < m.states → Tells g m g_ok m_ok (player_of e) s (node_of e i) (is_member (meaning m f) s)

abbrev pub Tests : (g : Graph) (m : Structure) → IsGraph g → IsStructure m → Bool → ℕ → Program → Type 0
Tests g m g_ok m_ok e i (Act name) = Unit {0}
Tests g m g_ok m_ok e i (Seq p q) =
    Tests g m g_ok m_ok e (i + 1) p × Tests g m g_ok m_ok e (i + 1 + program_occurrences p) q
Tests g m g_ok m_ok e i (Alt p q) =
    Tests g m g_ok m_ok e (i + 1) p × Tests g m g_ok m_ok e (i + 1 + program_occurrences p) q
Tests g m g_ok m_ok e i (Star p) = Tests g m g_ok m_ok e (i + 1) p
Tests g m g_ok m_ok e i (Test f) = Shown g m g_ok m_ok e (i + 1) f

-- the node of the formula of a test is one of the graph
pub tested_low : (g : Graph) (e : Bool) (i : ℕ) (f : Formula)
    → 2 * (i + (1 + occurrences f)) ≤ size g
    → node_of e (i + 1) < size g
tested_low g e i f room = omega (arith, room, (node_range e (i + 1)).1, some_occurrence f)
