-- What all texts of automata that are written have alike.
--
--   HOA: v1
--   States: N            there are N states, and the automaton begins in 0
--   Start: 0
--   AP: K "p" "q" ..     there are K propositions, with these names
--   ..                   here stand the acceptance, and what else is said of the whole
--   --BODY--
--   State: S             for each state S, with its edges behind it
--   [L] D ..             an edge under the label L, to the state D
--   --END--
--
-- Each line ends with one LF; numbers are written without leading zeros. A label is literals joined by `&`, as `0&!1`.
--
--   quoted name            == a name between quotes
--   bracketed word         == a word between brackets
--   signed b n             == the proposition n, or its negation where b is false
--   opening_lines n ps     == the lines up to the propositions, of n states, where the propositions have the names ps
--   body_line, last_line   == the line before the states; the last one
--   state_line s           == the line before the edges of the state s
use Rattle.std.specs.Prelude.{ℕ, Bool, List, [], ◌∷◌, ◌++◌, length, map, codes, if◌then◌else◌}
use Rattle.ml_lines.specs.Lines.{Line, Word, number}

-- 34 is the quote
abbrev pub quoted : Word → Word
quoted name = 34 ∷ (name ++ 34 ∷ [])

-- 91 and 93 are the brackets
abbrev pub bracketed : Word → Word
bracketed word = 91 ∷ (word ++ 93 ∷ [])

-- 33 is `!`
abbrev pub signed : Bool → ℕ → List ℕ
signed positive prop = if positive then number prop else 33 ∷ number prop

abbrev pub opening_lines : ℕ → List Word → List Line
opening_lines states props =
    (codes "HOA:" ∷ codes "v1" ∷ [])
    ∷ (codes "States:" ∷ number states ∷ [])
    ∷ (codes "Start:" ∷ number 0 ∷ [])
    ∷ (codes "AP:" ∷ number (length props) ∷ map quoted props)
    ∷ []

abbrev pub body_line : Line
body_line = codes "--BODY--" ∷ []

abbrev pub state_line : ℕ → Line
state_line state = codes "State:" ∷ number state ∷ []

abbrev pub last_line : Line
last_line = codes "--END--" ∷ []
