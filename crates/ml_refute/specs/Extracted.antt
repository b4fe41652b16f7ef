-- The refutation that a solution of the decision game makes, where Odd wins.
--
-- At an entry all of Even's choices are followed, and of Odd's the one of the solution. So an entry is a position at
-- which no side is chosen yet, and its decision is the tree of Even's choices from there on, up to a clash or to Odd's
-- choice, which leads to the next entry. Entry 0 is the start. The others are the positions to which the decisions
-- lead, each once, and they are numbered breadth first, decisions being read left before right: what the decisions
-- lead to, entry by entry, names the entries in the order of their numbers.
--
--   traces_of g h          == the names in use and the stacks of the history h, at states of the automaton
--   leads_to d             == the entries to which the decision d leads, left before right
--   Chooses a s p q        == the solution's choice at the position p is the position q
--   IsLeastTo g p sp q d   == d is the least diamond of the spread along which the step from p leads to q
--   IsGo g a s ps p sp d f m == along d Odd's choice at p is taken, to the entry f, with the mark m
--   IsDecisionAt g a s ps p d == d is the decision from the position p on, the entries being the positions ps
--   IsEntryAt g a s ps p e == e is the entry at the position p
--   IsGreatestLive n es    == n is the greatest number of names in use in an entry
--   IsOutlineOf g a s r    == r is the refutation, as far as its heights
--   go_graph r             == the entries, with an arc for each go; neutral is twice the number of names
--   IsRefutationOf g a s r == r is the refutation: its heights are the longest counts in this graph
use Rattle.std.specs.Prelude.{ℕ, ◌+◌, ◌*◌, ◌≡◌, ◌<◌, ◌≤◌, List, [], ◌∷◌, ◌++◌, length, map, slice_get, Some, All}
use Rattle.std.specs.List.{range_with_len}
use Rattle.ml_lists.specs.BreadthFirst.{IsBreadthFirst}
use Rattle.ml_lists.specs.Member.{IsMember}
use Rattle.ml_graph.specs.Graph.{Graph, odd_priorities}
use Rattle.ml_history.specs.HistoryStep.{live}
use Rattle.ml_parity.specs.OneSided.{OneSidedGraph, AreLongest}
use Rattle.ml_parity.specs.declared.one_sided.graph.Arc.{Arc}
use Rattle.ml_parity.specs.Solution.{GameSolution, choice_at}
use Rattle.ml_product.specs.Arena.{Arena}
use Rattle.ml_product.specs.DecisionGame.{Open, IsResolved, IsVerdictOf, diamonds_of, AreDifferent}
use Rattle.ml_product.specs.Position.{Position, neutral, with_chosen, Follows}
use Rattle.ml_refutation.specs.Acceptance.{OfSpread, entry_at, heights_of}
use Rattle.ml_refutation.specs.Refutation.{Refutation, Entry, Decision, Split, Clash, Go}
use Rattle.ml_sequent.specs.declared.choice.Side.TheVariants.{Left, Right}
use Rattle.ml_sequent.specs.Spread.{SpreadList}
use Rattle.ml_sequent.specs.FirstCause.{IsFirstCause}
use Rattle.ml_trace.specs.declared.letters.AutomatonState.{AutomatonState}
use Rattle.ml_trace.specs.declared.marks.Mark.{Mark}
use Rattle.ml_trace.specs.AutomatonNumbers.{state_of}
use Rattle.ml_trace.specs.Marks.{priority}
use Rattle.ml_trace.specs.MarkOrder.{FitsBelow}
use Rattle.ml_trace.specs.Stack as traced

-- ---- an entry

abbrev pub traces_of : Graph → List (traced.Item ℕ) → traced.Entry AutomatonState
traces_of g h = record {
  live = live h;
  items = map (λ (a : traced.Item ℕ). record { state = state_of (odd_priorities g) a.state; stack = a.stack }) h;
}

abbrev pub leads_to : Decision → List ℕ
leads_to (Split o left right) = leads_to left ++ leads_to right
leads_to (Clash x) = []
leads_to (Go d f m) = f ∷ []

-- at the vertex of p the choice is the vertex of q
pub record Chooses (a : Arena) (s : GameSolution) (p q : Position) : Type 0 where
  pub vertex : ℕ
  pub is_here : slice_get a.positions vertex ≡ Some p
  pub chosen : slice_get a.positions (choice_at s.choice vertex) ≡ Some q

pub record IsLeastTo (g : Graph) (p : Position) (sp : SpreadList) (q : Position) (d : ℕ) : Type 0 where
  pub is_diamond : IsMember d (diamonds_of g sp)
  pub leads : Follows g p sp d q
  pub least : (c : ℕ) → c < d → IsMember c (diamonds_of g sp) → Follows g p sp c q → ⊥

-- the entries are those of the positions ps; the mark is the one whose priority the next position has
pub record IsGo (g : Graph) (a : Arena) (s : GameSolution) (ps : List Position) (p : Position) (sp : SpreadList) (d f : ℕ)
    (m : Mark) : Type 0 where
  pub next : Position
  pub is_choice : Chooses a s p next
  pub is_diamond : IsLeastTo g p sp next d
  pub is_entry : slice_get ps f ≡ Some next
  pub marked : next.priority ≡ priority (neutral g) m
  pub is_mark : FitsBelow (neutral g) m

-- a branch ends in the first clash, splits at the least open or-node, or goes on along a diamond
abbrev pub IsDecisionAt : Graph → Arena → GameSolution → List Position → Position → Decision → Type 0
IsDecisionAt g a s ps p (Clash x) = OfSpread g p.sequent p.choice (λ sp. IsFirstCause g sp x)
IsDecisionAt g a s ps p (Split o left right) =
    OfSpread g p.sequent p.choice (λ sp. IsVerdictOf g sp (Open o))
    × IsDecisionAt g a s ps (with_chosen g p o Left) left
    × IsDecisionAt g a s ps (with_chosen g p o Right) right
IsDecisionAt g a s ps p (Go d f m) = OfSpread g p.sequent p.choice (λ sp. IsResolved g sp × IsGo g a s ps p sp d f m)

pub record IsEntryAt (g : Graph) (a : Arena) (s : GameSolution) (ps : List Position) (p : Position)
    (e : Entry) : Type 0 where
  pub unchosen : p.choice ≡ []
  pub sequent : e.sequent ≡ p.sequent
  pub traces : e.traces ≡ traces_of g p.history
  pub decision : IsDecisionAt g a s ps p e.decision

-- ---- all entries

pub record IsGreatestLive (n : ℕ) (entries : List Entry) : Type 0 where
  pub bounds : All (λ e. e.traces.live ≤ n) entries
  pub entry : Entry
  pub member : IsMember entry entries
  pub is : entry.traces.live ≡ n

pub record IsOutlineOf (g : Graph) (a : Arena) (s : GameSolution) (r : Refutation) : Type 0 where
  pub positions : List Position
  pub a_position_each : length positions ≡ length r.entries
  pub starts : slice_get positions 0 ≡ slice_get a.positions 0
  pub are_different : AreDifferent positions
  pub are_entries : (e : ℕ) (p : Position) → slice_get positions e ≡ Some p → IsEntryAt g a s positions p (entry_at r e)
  pub breadth_first : IsBreadthFirst 0 (map (λ e. leads_to e.decision) r.entries) (range_with_len 0 (length r.entries))
  pub names : IsGreatestLive r.names r.entries

-- ---- heights

abbrev pub arcs_of : ℕ → ℕ → Decision → List Arc
arcs_of top e (Split o left right) = arcs_of top e left ++ arcs_of top e right
arcs_of top e (Clash x) = []
arcs_of top e (Go d f m) = record { from = e; priority = priority top m; to = f } ∷ []

-- those of the entries, of which the first one has the number e
abbrev pub arcs_from : ℕ → ℕ → List Entry → List Arc
arcs_from top e [] = []
arcs_from top e (first ∷ others) = arcs_of top e first.decision ++ arcs_from top (e + 1) others

abbrev pub go_graph : Refutation → OneSidedGraph
go_graph r = record { size = length r.entries; top = 2 * r.names; arcs = arcs_from (2 * r.names) 0 r.entries }

pub record IsRefutationOf (g : Graph) (a : Arena) (s : GameSolution) (r : Refutation) : Type 0 where
  pub outline : IsOutlineOf g a s r
  pub heights : AreLongest (go_graph r) (heights_of r)
