-- What is true of the paths from a state.
--
--   AreAlike x y == both say the same, whichever path is shown
--   OnePath      == of what is found, both say the same
--   SomePath     == something is found, for each formula of LTL
--   RunsHold     == on the structure of a word that satisfies a formula, or its negation, the problem of LTL on words holds
--   ShownAreRuns == so it does on that of the labels along a path that is shown
use Rattle.std.specs.Prelude.{ℕ, ◌≡◌, ◌<◌, Bool, true}
use Rattle.ml_base.specs.Structure.{IsStructure, Structure}
use Rattle.ml_ctl.specs.Formula.{Formula}
use Rattle.ml_ctl.specs.Sorts.{is_linear}
use Rattle.ml_lists.specs.Lasso.{Lasso}
use Rattle.ml_ltl.specs.Problem.{in_sense}
use Rattle.ml_trace.specs.WordAutomata.{IsWordLasso, WordLasso}
use Rattle.ml_word_automaton.specs.Words.{Letter, SatisfiedBy}
use Rattle.ml_word_graph.specs.Problem as words
use Rattle.ml_paths.specs.Paths.{IsFound, IsShown}
use Rattle.ml_paths.specs.Runs.{IsRunOf, word_along}
use Rattle.ml_paths.specs.declared.found.Found.{Found}
use Rattle.ml_paths.specs.declared.found.Found.TheVariants.{ClosureTooLarge, NoPath, Path}

abbrev pub AreAlike : Found → Found → Type 0
AreAlike (Path l) (Path k) = Unit {0}
AreAlike NoPath NoPath = Unit {0}
AreAlike ClosureTooLarge ClosureTooLarge = Unit {0}
AreAlike _ _ = ⊥

abbrev pub OnePath : Type 0
OnePath = (m : Structure) (s : ℕ) (f : Formula) (negated : Bool) (x y : Found)
    → IsFound m s f negated x
    → IsFound m s f negated y
    → AreAlike x y

abbrev pub SomePath : Type 0
SomePath = (m : Structure) (s : ℕ) (f : Formula) (negated : Bool)
    → IsStructure m
    → s < m.states
    → is_linear f ≡ true
    → (x : Found) × IsFound m s f negated x

abbrev pub RunsHold : Type 0
RunsHold = (w : WordLasso Letter) (m : Structure) (f : Formula) (negated : Bool)
    → IsWordLasso w
    → IsStructure m
    → IsRunOf w m
    → is_linear f ≡ true
    → SatisfiedBy w (in_sense negated f)
    → words.IsAdmitted m × words.HoldsAt m 0 f negated

abbrev pub ShownAreRuns : Type 0
ShownAreRuns = (m : Structure) (s : ℕ) (f : Formula) (negated : Bool) (l : Lasso)
    → is_linear f ≡ true
    → IsShown m s f negated l
    → SatisfiedBy (word_along m l) (in_sense negated f)
