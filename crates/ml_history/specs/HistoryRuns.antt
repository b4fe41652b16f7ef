-- Steps of a history one after the other.
--
--   after h w          == the history after the steps along the word w
--   marks_along h w    == the marks of these steps
use Rattle.std.specs.Prelude.{ℕ, List, [], ◌∷◌}
use Rattle.ml_trace.specs.declared.letters.Transition.{Transition}
use Rattle.ml_trace.specs.declared.marks.Mark.{Mark}
use Rattle.ml_trace.specs.Stack.{Item}
use Rattle.ml_history.specs.HistoryStep.{step_mark, stepped}

-- the history after the steps along a word
abbrev pub after : List (Item ℕ) → List (List Transition) → List (Item ℕ)
after h [] = h
after h (l ∷ w) = after (stepped h l) w

-- the marks of these steps
abbrev pub marks_along : List (Item ℕ) → List (List Transition) → List Mark
marks_along h [] = []
marks_along h (l ∷ w) = step_mark h l ∷ marks_along (stepped h l) w
