-- Büchi automata over sets of propositions, whose edges have cubes.
--
-- A letter is a set of propositions, those that are true at a place of a word; it is given as a list of names, and neither
-- order nor repetition means anything. A cube asks of some propositions that they be true, and of some others that they be
-- false. An edge may be taken under each letter that its cube fits; whatever the cube doesn't name is free. The states are
-- numbers, and the automaton begins in state 0.
--
--   Letter, has letter p    == a list of the propositions that are true; is p one of them?
--   Edge                    == under a cube to a state; does it accept?
--   Automaton               == the names of the propositions, and of each state its edges
--   edges_of a p            == the edges of the state p
--   IsTrueIn props letter l == the literal l is true in the letter, where its proposition is one of these
--   Fits props letter c     == all literals of the cube c are
--   Leads a letter p q b    == under the letter some edge leads from p to q, accepting or not as b says
--   Accepts a w             == the automaton accepts the word lasso w
--   AcceptSame a b          == the automata a and b accept the same word lassos
--   IsReached a p           == edges lead from state 0 to p
--   AreReached a            == so they do to each state
--   IsCube k c              == the cube names propositions below k, each once, in ascending order
--   IsLabelled a            == there is a state, and there are less than 2^32 states and propositions; names are names; edges
--                              lead to states, under cubes of the propositions
use Rattle.std.specs.Prelude.{ℕ, ◌≡◌, ◌<◌, ◌^◌, ◌↔◌, Bool, List, [], length, map, get_or, All}
use Rattle.std.specs.List.{list_any}
use Rattle.std.specs.Str.{bytes_eq}
use Rattle.ml_base.specs.Name.{IsName}
use Rattle.ml_lists.specs.Ascending.{IsAscending}
use Rattle.ml_lists.specs.Member.{IsMember}
use Rattle.ml_trace.specs.WordAutomata.{WordLasso, IsWordLasso, IsAcceptedFrom}
use Rattle.ml_labelled.specs.declared.labelled.Literal.{Literal}

-- ---- letters

abbrev pub Letter : Type 0
Letter = List (List ℕ)

-- the proposition is in the letter
abbrev pub has : Letter → List ℕ → Bool
has letter p = list_any (λ q. bytes_eq q p) letter

-- ---- automata

pub record Edge : Type 0 where
  pub cube : List Literal
  pub to : ℕ
  pub accepting : Bool

pub record Automaton : Type 0 where
  pub props : List (List ℕ)
  pub edges : List (List Edge)

abbrev pub edges_of : Automaton → ℕ → List Edge
edges_of a p = get_or a.edges p []

-- ---- what is accepted

abbrev pub IsTrueIn : List (List ℕ) → Letter → Literal → Type 0
IsTrueIn props letter l = has letter (get_or props l.prop []) ≡ l.positive

abbrev pub Fits : List (List ℕ) → Letter → List Literal → Type 0
Fits props letter c = (l : Literal) → IsMember l c → IsTrueIn props letter l

pub record Leads (a : Automaton) (letter : Letter) (p q : ℕ) (accepting : Bool) : Type 0 where
  pub edge : Edge
  pub is_edge : IsMember edge (edges_of a p)
  pub fits : Fits a.props letter edge.cube
  pub to_is : edge.to ≡ q
  pub accepting_is : edge.accepting ≡ accepting

abbrev pub Accepts : Automaton → WordLasso Letter → Type 0
Accepts a w = IsAcceptedFrom (Leads a) 0 w

abbrev pub AcceptSame : (a b : Automaton) → Type 0
AcceptSame a b = (w : WordLasso Letter) → IsWordLasso w → Accepts a w ↔ Accepts b w

-- ---- what is reached

pub data IsReached (a : Automaton) : ℕ → Type 0 where
  begins : IsReached a 0
  along : (p : ℕ) (e : Edge) → IsReached a p → IsMember e (edges_of a p) → IsReached a e.to

abbrev pub AreReached : Automaton → Type 0
AreReached a = (p : ℕ) → p < length a.edges → IsReached a p

-- ---- what is kept

pub record IsCube (props : ℕ) (c : List Literal) : Type 0 where
  pub ascends : IsAscending (map (λ (l : Literal). l.prop) c)
  pub below : (l : Literal) → IsMember l c → l.prop < props

pub record IsEdge (states props : ℕ) (e : Edge) : Type 0 where
  pub is_cube : IsCube props e.cube
  pub to_state : e.to < states

pub record IsLabelled (a : Automaton) : Type 0 where
  pub some_state : 0 < length a.edges
  pub few_states : length a.edges < 2 ^ 32
  pub few_props : length a.props < 2 ^ 32
  pub names : All IsName a.props
  pub edges : (p : ℕ) (e : Edge) → IsMember e (edges_of a p) → IsEdge (length a.edges) (length a.props) e
