-- The letters of a word of valuations.
--
--   letter_at ns vs k == the names of ns that are true under the k-th of the valuations vs
use Rattle.std.specs.Prelude.{ℕ, List, get_or}
use Rattle.ml_task.specs.NameSets.{members}
use Rattle.ml_word_automaton.specs.Words.{Letter}

abbrev pub letter_at : List (List ℕ) → List ℕ → ℕ → Letter
letter_at ns vs k = members ns (get_or vs k 0)
