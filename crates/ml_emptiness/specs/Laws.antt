-- What is true of systems and the automata that read their words.
--
--   SomeLasso == of a system an automaton accepts a word along some lasso, or none
use Rattle.std.specs.Prelude.{ℕ, ◌⊎◌, List, length}
use Rattle.ml_lists.specs.Lasso.{Lasso}
use Rattle.ml_trace.specs.declared.letters.Transition.{Transition}
use Rattle.ml_trace.specs.WordAutomata.{WordLasso}
use Rattle.ml_emptiness.specs.Emptiness.{IsAccepted, IsEmpty}
use Rattle.ml_emptiness.specs.Systems.{IsSystem, SystemTable}

abbrev pub SomeLasso : Type 0
SomeLasso = (row : List (List Transition)) (s : SystemTable) → IsSystem (length row) s
    → ((lasso : Lasso) × ((w : WordLasso ℕ) × IsAccepted row s lasso w)) ⊎ IsEmpty row s
