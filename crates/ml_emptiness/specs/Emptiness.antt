-- Whether a word automaton accepts a word of a system.
--
-- The automaton is a Büchi automaton: a row has its transitions under each letter, and it begins in its state 0.
--
--   reads row            == how the letters of the row lead
--   IsAccepted row s lasso w == w has the letters along the lasso of s, and the automaton accepts it
--   IsEmpty row s        == the automaton accepts no word of s
use Rattle.std.specs.Prelude.{ℕ, Bool, List, [], get_or}
use Rattle.ml_lists.specs.Lasso.{Lasso}
use Rattle.ml_trace.specs.declared.letters.Transition.{Transition}
use Rattle.ml_trace.specs.Run.{in_letter}
use Rattle.ml_trace.specs.WordAutomata.{IsAcceptedFrom, WordLasso}
use Rattle.ml_emptiness.specs.Systems.{IsWordOn, SystemTable}

-- the letter number l of the row leads from p to q, accepting or not
abbrev pub reads : List (List Transition) → ℕ → ℕ → ℕ → Bool → Type 0
reads row l = in_letter (get_or row l [])

pub record IsAccepted (row : List (List Transition)) (s : SystemTable) (lasso : Lasso) (w : WordLasso ℕ) : Type 0 where
  pub is_word : IsWordOn s lasso w
  pub is_accepted : IsAcceptedFrom (reads row) 0 w

abbrev pub IsEmpty : List (List Transition) → SystemTable → Type 0
IsEmpty row s = (lasso : Lasso) (w : WordLasso ℕ) → ¬ (IsAccepted row s lasso w)

-- the lasso with its word is accepted
abbrev pub IsFound : List (List Transition) → SystemTable → List ℕ → List ℕ → ℕ → Type 0
IsFound row s states letters start =
    IsAccepted row s (record { entries = states; start = start }) (record { word = letters; loop_start = start })
