-- That a spread is the least set that is closed.
--
--   IsClosed g c S      == S has the local children of its nodes
--   SpreadIsLeast       == the spread of C is the least closed set that has C
--   LeastSpreadLaw      == so is every spread
use Rattle.std.specs.Prelude.{ℕ, List}
use Rattle.ml_lists.specs.Member.{IsMember}
use Rattle.ml_graph.specs.Graph.{Graph}
use Rattle.ml_sequent.specs.declared.choice.Side.{Side}
use Rattle.ml_sequent.specs.LocalWalk.{InSpread, children}

-- S has the local children of its nodes
abbrev pub IsClosed : Graph → List (ℕ × Side) → List ℕ → Type 0
IsClosed g c S = (n m : ℕ) → IsMember n S → IsMember m (children g c n) → IsMember m S

-- the spread of C has C and is closed, and each closed set that has C has the spread
pub record SpreadIsLeast (g : Graph) (c : List (ℕ × Side)) (C : List ℕ) : Type 0 where
  pub has : (m : ℕ) → IsMember m C → InSpread g c C m
  pub closed : (n m : ℕ) → InSpread g c C n → IsMember m (children g c n) → InSpread g c C m
  pub least : (S : List ℕ)
      → IsClosed g c S
      → ((m : ℕ) → IsMember m C → IsMember m S)
      → (m : ℕ)
      → InSpread g c C m
      → IsMember m S

-- the spread of any set of nodes, in any graph and under any choice
abbrev pub LeastSpreadLaw : Type 0
LeastSpreadLaw = (g : Graph) (c : List (ℕ × Side)) (C : List ℕ) → SpreadIsLeast g c C
