-- What the quotient is built from. Only private contracts cite this.
--
--   between_classes class e  == the edge between classes that the edge e between states is
--   AreClassLabels           == the labels of states, each at the class of its state
use Rattle.std.specs.Prelude.{ℕ, ◌≡◌, ◌<◌, ◌↔◌, List, [], slice_index_or, Contains}
use Rattle.ml_base.specs.declared.structure.Edge.{Edge}
use Rattle.ml_base.specs.Structure.{Structure}
use Rattle.ml_bisim.specs.Quotient.{class_of}

-- the edge between classes that an edge between states is
abbrev pub between_classes : List ℕ → Edge → Edge
between_classes class e = record { source = class_of class e.source; action = e.action; target = class_of class e.target }

-- the labels are those of the states below n, each at the class of its state
abbrev pub AreClassLabels : Structure → List ℕ → ℕ → List (ℕ × List ℕ) → Type 0
AreClassLabels m class n labels = (c : ℕ) (p : List ℕ)
    → Contains labels (c, p) ↔ ((s : ℕ) × (s < n) × (class_of class s ≡ c) × Contains (slice_index_or m.labels s []) p)
