-- The graphs of problems.
--
--   IsGraphOf g p   == g is the graph of the problem p
--   OfGraph p P     == P is true of a graph of the problem p
--   HasLargeClosure p n == the closure of the problem p has more than n nodes: never in the mu-calculus, in PDL and on
--                      words, where graphs are linear in the formula
use Rattle.std.specs.Prelude.{ℕ, Bool}
use Rattle.ml_blocks.specs.BlockGraph.{IsGraphAt, linear_start_of, start_of}
use Rattle.ml_blocks.specs.Closures.{HasMoreThan}
use Rattle.ml_blocks.specs.Places.{Root}
use Rattle.ml_graph.specs.Graph.{Graph}
use Rattle.ml_mu_graph.specs.MuGraph as mu
use Rattle.ml_pdl_graph.specs.PdlGraph as pdl
use Rattle.ml_word_graph.specs.WordGraph as word
use Rattle.ml_front.specs.declared.problem.AnyFormula.{AnyFormula}
use Rattle.ml_front.specs.declared.problem.AnyFormula.TheVariants.{Mu, Pdl, Ctl, Ltl, Word}
use Rattle.ml_front.specs.declared.problem.Problem.{Problem}
pub use Rattle.ml_front.specs.WellFormed.{IsMeaningful}

-- the graph of a formula, in its sense
abbrev pub IsGraphAs : Graph → Bool → AnyFormula → Type 0
IsGraphAs g negated (Mu f) = mu.IsGraphOf g f negated
IsGraphAs g negated (Pdl f) = pdl.IsGraphOf g f negated
IsGraphAs g negated (Ctl f) = IsGraphAt g (start_of f negated)
IsGraphAs g negated (Ltl f) = IsGraphAt g (linear_start_of f negated)
IsGraphAs g negated (Word f) = word.IsGraphOf g f negated

abbrev pub IsGraphOf : Graph → Problem → Type 0
IsGraphOf g p = IsGraphAs g p.negated p.formula

pub record OfGraph (p : Problem) (P : Graph → Type 0) : Type 0 where
  pub graph : Graph
  pub is_graph : IsGraphOf graph p
  pub holds : P graph

-- the closure of a formula, in its sense
abbrev pub HasLargeClosureAs : ℕ → Bool → AnyFormula → Type 0
HasLargeClosureAs n negated (Ctl f) = HasMoreThan (Root (start_of f negated)) n
HasLargeClosureAs n negated (Ltl f) = HasMoreThan (Root (linear_start_of f negated)) n
HasLargeClosureAs n negated _ = ⊥

abbrev pub HasLargeClosure : Problem → ℕ → Type 0
HasLargeClosure p n = HasLargeClosureAs n p.negated p.formula
