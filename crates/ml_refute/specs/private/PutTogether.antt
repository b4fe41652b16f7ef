-- The refutation as it is put together. Only private contracts cite this.
--
--   HasMarksOf names d    == the marks of the go's of d have so many names
--   arcs_at top e ds      == the arcs of the decisions ds, of which the first one is that of entry e
--   go_graph_of n ds      == the entries with these decisions and n names, with an arc for each go
--   IsMostBelow g a vs k n == n is the number of names in use at one of the vertices, and the greatest at the first k
--   carried odds h        == the items of the history h, at states of the automaton
--   IsNamesOf g a vs n    == n is the greatest number of names in use at the vertices vs
--   IsPut odds p row d e  == e is the entry at the position p, with these heights and this decision
--   ArePut g a vs rows ds es == es are the entries of the first vertices of vs
use Rattle.std.specs.Prelude.{ℕ, ⊤, ◌≡◌, ◌+◌, ◌*◌, ◌<◌, ◌≤◌, List, [], ◌∷◌, ◌++◌, length, map, get_or, slice_get, Some}
use Rattle.ml_lists.specs.Member.{IsMember}
use Rattle.ml_graph.specs.Graph.{Graph, odd_priorities}
use Rattle.ml_history.specs.HistoryStep.{live}
use Rattle.ml_parity.specs.OneSided.{OneSidedGraph}
use Rattle.ml_parity.specs.declared.one_sided.graph.Arc.{Arc}
use Rattle.ml_product.specs.Arena.{Arena}
use Rattle.ml_product.specs.Position.{Position}
use Rattle.ml_refutation.specs.Refutation.{Decision, Split, Clash, Go, Entry, IsMarkOf}
use Rattle.ml_trace.specs.declared.letters.AutomatonState.{AutomatonState}
use Rattle.ml_trace.specs.AutomatonNumbers.{state_of}
use Rattle.ml_trace.specs.Stack.{Item}
use Rattle.ml_refute.specs.Extracted.{arcs_of}
use Rattle.ml_refute.specs.private.Found.{position_at}

abbrev pub HasMarksOf : ℕ → Decision → Type 0
HasMarksOf names (Split o left right) = HasMarksOf names left × HasMarksOf names right
HasMarksOf names (Clash x) = ⊤
HasMarksOf names (Go d f m) = IsMarkOf names m

abbrev pub arcs_at : ℕ → ℕ → List Decision → List Arc
arcs_at top e [] = []
arcs_at top e (d ∷ ds) = arcs_of top e d ++ arcs_at top (e + 1) ds

abbrev pub go_graph_of : ℕ → List Decision → OneSidedGraph
go_graph_of n ds = record { size = length ds; top = 2 * n; arcs = arcs_at (2 * n) 0 ds }

pub record IsNamesOf (g : Graph) (a : Arena) (vs : List ℕ) (n : ℕ) : Type 0 where
  pub bounds : (v : ℕ) → IsMember v vs → live (position_at g a v).history ≤ n
  pub vertex : ℕ
  pub member : IsMember vertex vs
  pub is : live (position_at g a vertex).history ≡ n

abbrev pub IsMostBelow : Graph → Arena → List ℕ → ℕ → ℕ → Type 0
IsMostBelow g a vs k n =
    ((i : ℕ) → i < k → live (position_at g a (get_or vs i 0)).history ≤ n)
    × ((j : ℕ) × (j < length vs) × (live (position_at g a (get_or vs j 0)).history ≡ n))

abbrev pub carried : List ℕ → List (Item ℕ) → List (Item AutomatonState)
carried odds h = map (λ a. record { state = state_of odds a.state; stack = a.stack }) h

pub record IsPut (odds : List ℕ) (p : Position) (row : List ℕ) (d : Decision) (e : Entry) : Type 0 where
  pub sequent : e.sequent ≡ p.sequent
  pub traces : e.traces ≡ record { live = live p.history; items = carried odds p.history }
  pub heights : e.heights ≡ row
  pub decision : e.decision ≡ d

pub record ArePut (g : Graph) (a : Arena) (vs : List ℕ) (rows : List (List ℕ)) (ds : List Decision) (es : List Entry)
    : Type 0 where
  pub an_entry_each : length es ≡ length ds
  pub are_put : (k : ℕ) (e : Entry) → slice_get es k ≡ Some e → (d : Decision) × (slice_get ds k ≡ Some d)
      × IsPut (odd_priorities g) (position_at g a (get_or vs k 0)) (get_or rows k []) d e
