-- The sequents of positions that are reached have nodes of the graph alone.
--
--   target_low      == a step leads to nodes of the graph
--   reached_low     == the nodes of the sequent of a position that is reached are nodes of the graph
--   trace_room      == states of nodes of the graph have small numbers, where the automaton has few states
use Rattle.std.proofs.Common.{ℕ, ◌≡◌, ◌+◌, ◌*◌, ◌^◌, ◌<◌, ◌≤◌, ◌⊎◌, inl, inr, List, All, sym, subst, arith}
use Rattle.std.proofs.Math.Nat.{mul-le-mul_right}
use Rattle.ml_lists.specs.Member.{IsMember}
use Rattle.ml_lists.proofs.Member.{member-All}
use Rattle.ml_graph.specs.Graph.{Graph, IsGraph, size, node_at, odd_priorities}
use Rattle.ml_graph.specs.declared.node.Node.TheVariants as node
use Rattle.ml_graph.proofs.References.{root_in_range, diamond_target, square_target}
use Rattle.ml_trace.specs.declared.letters.Triple.{Triple}
use Rattle.ml_trace.specs.Automaton.{states_per_node}
use Rattle.ml_trace.specs.AutomatonNumbers.{HasRoom, AllHaveRoom}
use Rattle.ml_sequent.specs.Spread.{SpreadList, IsSpreadOf}
use Rattle.ml_sequent.specs.Step.{LeadsOut, IsTrace, IsStep}
use Rattle.ml_product.specs.Position.{Position, automaton_states, Follows}
use Rattle.ml_product.specs.DecisionGame.{IsReached, at_start, by_move}
use Rattle.ml_product.proofs.NeutralPriority.{MovesTo, chooses, steps, moves_to}

-- what leads out along a diamond leads to nodes of the graph
leads_low : (g : Graph) (sp : SpreadList) (d e m : ℕ)
    → IsGraph g
    → ((n : ℕ) → IsMember n sp.nodes → n < size g)
    → IsMember d sp.nodes
    → LeadsOut g sp d e m
    → m < size g
leads_low g sp d e m ok low inside l = by_kind l.leaves
  where
    by_kind : ((e ≡ d) × (m ≡ l.child)) ⊎ (IsMember e sp.nodes × (node_at g e ≡ node.Square l.action m)) → m < size g
    by_kind (inl is) =
        subst (λ k. k < size g) (sym is.1) (diamond_target g ok d (low d inside) l.action l.child l.is_diamond)
    by_kind (inr is) = square_target g ok e (low e is.0) l.action m is.1

-- a step leads to nodes of the graph
pub target_low : (g : Graph) (p q : Position) (sp : SpreadList) (d : ℕ)
    → IsGraph g
    → IsSpreadOf g p.sequent p.choice sp
    → IsMember d sp.nodes
    → Follows g p sp d q
    → (n : ℕ)
    → IsMember n q.sequent
    → n < size g
target_low g p q sp d ok is inside f n m =
    let t = (f.is_step.targets n).0 m in leads_low g sp d t.leaving n ok is.low inside t.leads

-- the nodes of the sequent of a position that is reached are nodes of the graph
pub reached_low : (g : Graph) → IsGraph g → (p : Position) → IsReached g p → (n : ℕ) → IsMember n p.sequent → n < size g
reached_low g ok p at_start n (inl is) = subst (λ k. k < size g) (sym is) (root_in_range g ok)
reached_low g ok p at_start n (inr none) = absurd none
reached_low g ok p (by_move before _ turn reached m) n inside =
    by_kind (moves_to g before p turn m) (reached_low g ok before reached n)
  where
    by_kind : MovesTo g before p → (IsMember n before.sequent → n < size g) → n < size g
    by_kind (chooses sp o x is_spread is_open is) early =
        early (subst (λ (q : Position). IsMember n q.sequent) is inside)
    by_kind (steps sp d is_spread member f) early = target_low g before p sp d ok is_spread member f n inside

pub all_reached_low : (g : Graph) → IsGraph g → (p : Position) → IsReached g p → All (λ n. n < size g) p.sequent
all_reached_low g ok p reached = member-All (λ n. n < size g) p.sequent (reached_low g ok p reached)

-- states of nodes of the graph have small numbers, where the automaton has few states
node_room : (g : Graph) (n : ℕ) → automaton_states g ≤ 2 ^ 30 → n < size g → HasRoom (odd_priorities g) n
node_room g n small low =
    let whole : (n + 1) * states_per_node (odd_priorities g) ≤ size g * states_per_node (odd_priorities g) =
    mul-le-mul_right (states_per_node (odd_priorities g)) (omega arith) in
    omega arith

pub trace_room : (g : Graph) (C : List ℕ) (sp : SpreadList) (d : ℕ) (next : List ℕ) (made : List Triple)
    → IsGraph g
    → automaton_states g ≤ 2 ^ 30
    → IsSpreadOf g C sp.choice sp
    → IsMember d sp.nodes
    → ((n : ℕ) → IsMember n C → n < size g)
    → IsStep g C sp d next made
    → AllHaveRoom (odd_priorities g) made
trace_room g C sp d next made ok small is inside low step =
    member-All (λ (t : Triple). HasRoom (odd_priorities g) t.from × HasRoom (odd_priorities g) t.to) made room
  where
    room : (t : Triple) → IsMember t made → HasRoom (odd_priorities g) t.from × HasRoom (odd_priorities g) t.to
    room t m =
        let trace : IsTrace g C sp d t = (step.traces t).0 m in (
          node_room g t.from small (low t.from trace.from),
          node_room g t.to small (leads_low g sp d trace.leaving t.to ok is.low inside trace.leads),
        )
