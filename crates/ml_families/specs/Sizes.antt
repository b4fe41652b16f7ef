-- How large the decision games of the families are, for each number from 1 on, and that `loop` is satisfiable.
--
-- The formulas are those of `ml_gen/specs/Formulas`, for which the texts of the families stand. What is said of a game is
-- said of each graph of the formula, and of each arena of this graph.
--
--   HasSoMany g k   == the decision game of the graph g has k positions
--   MuGames, PdlGames f size == that of the formula `f n` has `size n`, for each n from 1 on
--   LoopsAreSatisfiable == the formulas of `loop` are satisfiable
use Rattle.std.specs.Prelude.{ℕ, ◌≡◌, ◌≤◌, false, length}
use Rattle.ml_gen.specs.Formulas.{loop_formula}
use Rattle.ml_graph.specs.Graph.{Graph}
use Rattle.ml_mu.specs.Formula as mu
use Rattle.ml_mu_graph.specs.MuGraph as mu_graphs
use Rattle.ml_pdl.specs.Formula as pdl
use Rattle.ml_pdl.specs.Problem.{IsSatisfiable}
use Rattle.ml_pdl_graph.specs.PdlGraph as pdl_graphs
use Rattle.ml_product.specs.Arena.{Arena, IsArenaOf}

abbrev pub HasSoMany : Graph → ℕ → Type 0
HasSoMany g k = (a : Arena) → IsArenaOf g a → length a.positions ≡ k

abbrev pub MuGames : (ℕ → mu.Formula) → (ℕ → ℕ) → Type 0
MuGames f size = (n : ℕ) → 1 ≤ n → (g : Graph) → mu_graphs.IsGraphOf g (f n) false → HasSoMany g (size n)

abbrev pub PdlGames : (ℕ → pdl.Formula) → (ℕ → ℕ) → Type 0
PdlGames f size = (n : ℕ) → 1 ≤ n → (g : Graph) → pdl_graphs.IsGraphOf g (f n) false → HasSoMany g (size n)

abbrev pub LoopsAreSatisfiable : Type 0
LoopsAreSatisfiable = (n : ℕ) → 1 ≤ n → IsSatisfiable (loop_formula n) false
