-- How a checking game is made. Only private contracts and proofs cite what stands here.
--
-- The states are walked in their order, and with them the edges, which ascend. At each state it is noted which
-- propositions of the graph are true, and where the edges of each of its actions lead; then the vertices of the state
-- are made one behind the other.
--
--   targets_in es s a        == where those of the edges es lead that leave s by a
--   targets_by es a          == where those of the edges es lead that have the action a
--   AreEdgesOf m s es        == es are the edges that leave s, as far as where they lead by each action
--   AreLeft m s es           == es are the edges that leave s or a later state, in their order
--   HasTruths props ls truths == the flags say which of the propositions are labels
--   AreEmpty rows            == no row has an entry
--   HasTargets actions es rows == the rows say for each action where those of the edges lead that have it
--   HasAdded actions e before behind == the rows behind are those before, with the edge e added
--   IsFor g at               == at has the names of the graph, and room for what is asked of a state
--   IsAt g m s at            == at has what is true at s, and where its edges lead
--   numbers_or_sink n to sink ss == the numbers of the pairs of these states and a node, or of the sink if there are none
--   HasVertices g m made vs  == the lists that were made so far are those of the vertices vs
use Rattle.std.specs.Prelude.{ℕ, ◌≡◌, ◌+◌, ◌*◌, ◌<◌, ◌≤◌, ◌==◌, Bool, ◌&&◌, false, List, [], ◌∷◌, ◌++◌, length, get_or, map, filter}
use Rattle.std.specs.Global.{Vec}
use Rattle.std.specs.List.{AllByRecursion, IsDistinct, list_any}
use Rattle.std.specs.List.Sorted.{IsStrictlySortedBy}
use Rattle.std.specs.Str.{bytes_eq}
use Rattle.ml_base.specs.declared.structure.Edge.{Edge}
use Rattle.ml_base.specs.EdgeOrder.{edge_cmp}
use Rattle.ml_base.specs.Structure.{Structure, lists}
use Rattle.ml_parity.specs.Refusal.{lists_of}
use Rattle.ml_graph.specs.declared.at_state.AtState.{AtState}
use Rattle.ml_graph.specs.declared.checking.Vertices.{Vertices}
use Rattle.ml_graph.specs.Graph.{Graph, prop_at, action_at}
use Rattle.ml_graph.specs.CheckingGame.{Vertex, owner_at, priority_at_vertex, vertex_number, successors, targets}

-- where those of the edges lead that leave the state by the action
abbrev pub targets_in : List Edge → ℕ → List ℕ → List ℕ
targets_in es s a = map (λ e. e.target) (filter (λ e. (e.source == s) && bytes_eq e.action a) es)

-- where those of the edges lead that have the action
abbrev pub targets_by : List Edge → List ℕ → List ℕ
targets_by es a = map (λ e. e.target) (filter (λ e. bytes_eq e.action a) es)

-- the edges that leave the state, as far as where they lead by each action
abbrev pub AreEdgesOf : Structure → ℕ → List Edge → Type 0
AreEdgesOf m s es = (a : List ℕ) → targets m s a ≡ targets_by es a

-- the edges that leave this state or a later one, in their order
pub record AreLeft (m : Structure) (s : ℕ) (es : List Edge) : Type 0 where
  pub ascend : IsStrictlySortedBy edge_cmp es
  pub from_here : AllByRecursion (λ e. s ≤ e.source) es
  pub same : (t : ℕ) (a : List ℕ) → s ≤ t → targets m t a ≡ targets_in es t a

-- the flags say which of the propositions are labels
pub record HasTruths (props labels : List (List ℕ)) (truths : List Bool) : Type 0 where
  pub size : length truths ≡ length props
  pub truth : (p : ℕ) → p < length props
      → get_or truths p false ≡ list_any (λ q. bytes_eq q (get_or props p [])) labels

-- no row has an entry
abbrev pub AreEmpty : List (Vec ℕ) → Type 0
AreEmpty rows = (k : ℕ) → get_or (lists_of rows) k [] ≡ []

-- the rows say for each action where those of the edges lead that have it
pub record HasTargets (actions : List (List ℕ)) (es : List Edge) (rows : List (Vec ℕ)) : Type 0 where
  pub size : length rows ≡ length actions
  pub row : (a : ℕ) → a < length actions → get_or (lists_of rows) a [] ≡ targets_by es (get_or actions a [])

-- the rows of one edge more: behind the row of its action stands its target
pub record HasAdded (actions : List (List ℕ)) (e : Edge) (before behind : List (Vec ℕ)) : Type 0 where
  pub size : length behind ≡ length before
  pub row : (a : ℕ) → a < length actions
      → get_or (lists_of behind) a [] ≡ get_or (lists_of before) a [] ++ targets_by (e ∷ []) (get_or actions a [])

-- the names of the graph, and room for what is asked of a state
pub record IsFor (g : Graph) (at : AtState) : Type 0 where
  pub props : at.props.keys ≡ g.props
  pub actions : at.actions.keys ≡ g.actions
  pub truths : length at.truths.items ≡ length g.props
  pub targets : length at.targets.items ≡ length g.actions
  pub props_differ : IsDistinct bytes_eq g.props
  pub actions_differ : IsDistinct bytes_eq g.actions

-- what is true at the state, and where its edges lead
pub record IsAt (g : Graph) (m : Structure) (s : ℕ) (at : AtState) : Type 0 where
  pub names : IsFor g at
  pub truth : (p : ℕ) → p < length g.props → get_or at.truths.items p false ≡ lists m s (prop_at g p)
  pub row : (a : ℕ) → a < length g.actions → get_or (lists_of at.targets.items) a [] ≡ targets m s (action_at g a)

-- the numbers of the pairs of these states and a node, or of the sink if there are none
abbrev pub numbers_or_sink : (size node sink : ℕ) → List ℕ → List ℕ
numbers_or_sink n to sink [] = sink ∷ []
numbers_or_sink n to sink (s ∷ ss) = map (λ t. t * n + to) (s ∷ ss)

-- the lists that were made so far are those of these vertices
pub record HasVertices (g : Graph) (m : Structure) (made : Vertices) (vs : List Vertex) : Type 0 where
  pub owners : made.owner.items ≡ map (owner_at g) vs
  pub priorities : made.priority.items ≡ map (priority_at_vertex g) vs
  pub moves : lists_of made.successors.items ≡ map (λ v. map (vertex_number g m) (successors g m v)) vs
