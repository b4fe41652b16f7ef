-- Büchi automata whose edges have guards over propositions.
--
-- An edge may be taken where its guard is true; a run accepts if it takes accepting edges infinitely often.
--
--   Guard            == a formula over the propositions 0, 1, ..
--   Edge             == from a state to a state, under a guard; does it accept?
--   Automaton        == how many states, the first state, the names of the propositions, and the edges
--   PropsBelow k g   == all propositions of g are below k
--   operators g      == how many operators g has
--   IsEdge m k e     == the edge is one among m states, and its guard one over k propositions, within the limit on operators
--   IsAutomaton a    == there are no more states, propositions and edges than may be, and all numbers are in range
use Rattle.std.specs.Prelude.{ℕ, ◌+◌, ◌<◌, ◌≤◌, Bool, List, length, All}
use Rattle.ml_hoa.specs.declared.limits.TheConstants.{MOST_STATES, MOST_PROPS, MOST_EDGES, MOST_OPERATORS}

pub data Guard : Type 0 where
  Const : Bool → Guard
  Ap : ℕ → Guard
  Not : Guard → Guard
  And Or : Guard → Guard → Guard

pub record Edge : Type 0 where
  pub from : ℕ
  pub guard : Guard
  pub to : ℕ
  pub accepting : Bool

pub record Automaton : Type 0 where
  pub states : ℕ
  pub start : ℕ
  pub props : List (List ℕ)
  pub edges : List Edge

abbrev pub PropsBelow : ℕ → Guard → Type 0
PropsBelow k (Const b) = Unit {0}
PropsBelow k (Ap n) = n < k
PropsBelow k (Not g) = PropsBelow k g
PropsBelow k (And g h) = PropsBelow k g × PropsBelow k h
PropsBelow k (Or g h) = PropsBelow k g × PropsBelow k h

abbrev pub operators : Guard → ℕ
operators (Const b) = 0
operators (Ap n) = 0
operators (Not g) = operators g + 1
operators (And g h) = operators g + operators h + 1
operators (Or g h) = operators g + operators h + 1

abbrev pub most_states : ℕ
most_states = MOST_STATES

abbrev pub most_props : ℕ
most_props = MOST_PROPS

abbrev pub most_edges : ℕ
most_edges = MOST_EDGES

abbrev pub most_operators : ℕ
most_operators = MOST_OPERATORS

pub record IsEdge (states props : ℕ) (e : Edge) : Type 0 where
  pub from_below : e.from < states
  pub to_below : e.to < states
  pub props_below : PropsBelow props e.guard
  pub small : operators e.guard ≤ most_operators

pub record IsAutomaton (a : Automaton) : Type 0 where
  pub few_states : a.states ≤ most_states
  pub few_props : length a.props ≤ most_props
  pub few_edges : length a.edges ≤ most_edges
  pub start_below : a.start < a.states
  pub edges_fit : All (IsEdge a.states (length a.props)) a.edges
