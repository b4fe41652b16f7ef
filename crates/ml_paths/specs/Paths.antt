-- Paths of a structure that satisfy a formula of LTL.
--
-- A path is a lasso of states along the edges by the action `_` (`ml_ctl/specs/Paths`). What is asked for is one from a state
-- that satisfies the formula, or, where the formula is negated, one that doesn't.
--
--   most_nodes        == how many nodes the graph of the word automaton may have
--   labels_at m s     == the propositions that are true at the state s of m
--   IsShown m s f b l == l is a path of m from s that satisfies f, or its negation where b is true
--   IsLarge f b       == the graph of the word automaton has more than the most nodes
--   IsFound m s f b x == x is what is found: that it is large; or such a path, or that there is none
use Rattle.std.specs.Prelude.{ℕ, Bool, List, [], slice_index_or}
use Rattle.ml_base.specs.Structure.{Structure}
use Rattle.ml_blocks.specs.Closures.{HasMoreThan}
use Rattle.ml_ctl.specs.Formula.{Formula}
use Rattle.ml_ctl.specs.Meaning.{Satisfies}
use Rattle.ml_ctl.specs.Paths.{IsPathFrom}
use Rattle.ml_lists.specs.Lasso.{Lasso}
use Rattle.ml_ltl.specs.Problem.{in_sense}
use Rattle.ml_word_automaton.specs.WordAutomaton.{start_block}
use Rattle.ml_paths.specs.declared.finding.TheConstants.{MOST_NODES}
use Rattle.ml_paths.specs.declared.found.Found.{Found}
use Rattle.ml_paths.specs.declared.found.Found.TheVariants as found

abbrev pub most_nodes : ℕ
most_nodes = MOST_NODES

abbrev pub labels_at : Structure → ℕ → List (List ℕ)
labels_at m s = slice_index_or m.labels s []

pub record IsShown (m : Structure) (s : ℕ) (f : Formula) (negated : Bool) (l : Lasso) : Type 0 where
  pub is_path : IsPathFrom m s l
  pub satisfies : Satisfies m l (in_sense negated f)

abbrev pub IsLarge : Formula → Bool → Type 0
IsLarge f negated = HasMoreThan (start_block f negated) most_nodes

abbrev pub IsFound : Structure → ℕ → Formula → Bool → Found → Type 0
IsFound m s f negated (found.Path l) = (¬ (IsLarge f negated)) × IsShown m s f negated l
IsFound m s f negated found.NoPath = (¬ (IsLarge f negated)) × ((l : Lasso) → ¬ (IsShown m s f negated l))
IsFound m s f negated found.ClosureTooLarge = IsLarge f negated
