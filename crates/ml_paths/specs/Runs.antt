-- Words as structures: the run that a document shows.
--
-- Each place of the word is a state, in order, with the propositions of its letter, and with one edge by the action `_`, to
-- the next place, from the last one to the loop start.
--
--   IsRunOf w m    == m is the structure of the word w
--   word_along m l == the word of the labels along the lasso l of m
--   word_at ls n s == the word of the letters ls at the first n places, with the loop start s
use Rattle.std.specs.Prelude.{ℕ, ◌≡◌, ◌<◌, ◌↔◌, List, [], length, map, get_or, Contains}
use Rattle.std.specs.List.{range_with_len}
use Rattle.ml_base.specs.Structure.{Structure, lists}
use Rattle.ml_base.specs.declared.structure.Edge.{Edge}
use Rattle.ml_lists.specs.Lasso.{Lasso}
use Rattle.ml_trace.specs.WordAutomata.{WordLasso}
use Rattle.ml_word_automaton.specs.Words.{Letter, has, word_structure}
use Rattle.ml_paths.specs.Paths.{labels_at}

pub record IsRunOf (w : WordLasso Letter) (m : Structure) : Type 0 where
  pub one_each : m.states ≡ length w.word
  pub labels : (k : ℕ) (p : List ℕ) → k < length w.word → lists m k p ≡ has (get_or w.word k []) p
  pub edges : (e : Edge) → Contains m.edges e ↔ Contains (word_structure w).edges e

abbrev pub word_along : Structure → Lasso → WordLasso Letter
word_along m l = record { word = map (labels_at m) l.entries; loop_start = l.start }

abbrev pub word_at : (ℕ → Letter) → ℕ → ℕ → WordLasso Letter
word_at letters n start = record { word = map letters (range_with_len 0 n); loop_start = start }
