-- Of which parts a structure is built, and what it has.
--
--   of_parts n ls es             == the structure of n states with the labels ls of each and the edges es
--   IsBuiltFrom n ls es m        == m has n states, the labels ls and the edges es, and no others
--   ends e                       == the source of the edge, and then its target
--   labels_at ls s               == the labels that ls gives the state s, in their order
--   first_bad_state n ls es      == the first state of the labels ls, then of the edges es, that isn't below n: of an
--                                   edge its source before its target
use Rattle.std.specs.Prelude.{ℕ, ◌≡◌, ◌↔◌, ◌==◌, ◌++◌, List, [], ◌∷◌, Option, map, filter, find, nat_le, slice_index_or, Contains}
use Rattle.std.specs.List.{flat_map}
use Rattle.ml_base.specs.declared.structure.Edge.{Edge}
use Rattle.ml_base.specs.Structure.{Structure}

-- the structure with this many states, these labels of each state, and these edges
abbrev pub of_parts : ℕ → List (List (List ℕ)) → List Edge → Structure
of_parts states labels edges = record { states = states; labels = labels; edges = edges }

pub record IsBuiltFrom (states : ℕ) (labels : List (ℕ × List ℕ)) (edges : List Edge) (m : Structure) : Type 0 where
  pub has_states : m.states ≡ states
  pub has_labels : (s : ℕ) (p : List ℕ) → Contains (slice_index_or m.labels s []) p ↔ Contains labels (s, p)
  pub has_edges : (e : Edge) → Contains m.edges e ↔ Contains edges e

abbrev pub labels_at : List (ℕ × List ℕ) → ℕ → List (List ℕ)
labels_at labels s = map (λ label. label.1) (filter (λ label. label.0 == s) labels)

abbrev pub ends : Edge → List ℕ
ends e = e.source ∷ e.target ∷ []

-- the states that the labels and the edges name, in the order of the lists
abbrev pub named_states : List (ℕ × List ℕ) → List Edge → List ℕ
named_states labels edges = map (λ label. label.0) labels ++ flat_map ends edges

abbrev pub first_bad_state : ℕ → List (ℕ × List ℕ) → List Edge → Option ℕ
first_bad_state states labels edges = find (nat_le states) (named_states labels edges)
