-- The text of a deterministic parity automaton, in HOA.
--
--   HOA: v1
--   States: N            there are N states, and the automaton begins in 0
--   Start: 0
--   AP: K "p" "q" ..     there are K propositions, with these names
--   Acceptance: T C      there are T sets of moves, and C says which runs are accepted
--   --BODY--
--   State: S             for each state S, and behind it for each valuation of the propositions:
--   [L] D {P}            where the valuation is that of the label L, a move to the state D, in the set P
--   --END--
--
-- States and valuations ascend. The set of a move is its priority, and a run is accepted if the lowest set that it meets again
-- and again is odd. What all texts of automata have alike is in `ml_hoa`.
--
--   Condition              == which runs are accepted: those that meet a set finitely often (Fin) or again and again (Inf),
--                             those that meet both of two conditions, or one of them
--   meets seen c           == is c met, where `seen` tells the sets that are met again and again?
--   lowest_is_odd n m      == of the set n and the m sets behind it, the lowest one that is met again and again is odd
--   alone n                == where no set stands behind n: an even one is met finitely often, an odd one again and again
--   joined n c             == where c says so of the sets behind it
--   parity_condition top   == so of all sets below `top`
--   operand_text c         == c as a part of a condition: between parentheses, unless it is about one set
--   condition_text c       == c as a whole
--   braced word            == a word between braces
--   literal v n            == the proposition n, or its negation, whichever the valuation v makes true
--   next_literal v n       == an `&` and this literal
--   label k v              == the literals of k propositions; `t` where there is none
--   move_line k m          == the line of the move m.1 under the valuation m.0; move_text has its bytes
--   state_text k s         == the lines of the state s.0 with the moves s.1
--   acceptance_line top    == the line of the condition
--   head_lines n ps top    == the lines before n states, where the propositions have the names ps
--   automaton_text d       == all lines
--   IsRow k top n moves    == there is one move for each valuation of k propositions, with a set below `top` and to a state
--                             below n
--   IsWritable d           == `top` is odd, there are few propositions, some state, and each state has such moves
--   ConditionIsParity      == the condition is met exactly where the lowest set that is met again and again is odd
use Rattle.std.specs.Prelude.{ℕ, ◌≡◌, ◌+◌, ◌-◌, ◌^◌, ◌%◌, ◌<◌, ◌≤◌, ◌==◌, ◌&&◌, ◌||◌, ◌↔◌, not, Bool, true, false, zero, suc, List, [], ◌∷◌, ◌++◌, length, codes, All, if◌then◌else◌}
use Rattle.std.specs.List.{flat_map, enumerate_from, range_with_len}
use Rattle.ml_lines.specs.Lines.{Line, line_text, number, text_of}
use Rattle.ml_hoa.specs.Automaton.{most_props}
use Rattle.ml_hoa.specs.WrittenLines.{body_line, bracketed, last_line, opening_lines, signed, state_line}
use Rattle.ml_determinise.specs.declared.moves.DetMove.{DetMove}
use Rattle.ml_buchi.specs.Deterministic.{Deterministic}
use Rattle.ml_buchi.specs.Valuations.{is_true}

-- ---- which runs are accepted

pub data Condition : Type 0 where
  Fin Inf : ℕ → Condition
  And Or : Condition → Condition → Condition

abbrev pub meets : (ℕ → Bool) → Condition → Bool
meets seen (Fin n) = not (seen n)
meets seen (Inf n) = seen n
meets seen (And c d) = meets seen c && meets seen d
meets seen (Or c d) = meets seen c || meets seen d

abbrev pub is_even : ℕ → Bool
is_even n = n % 2 == 0

-- no set behind n is met
abbrev pub alone : ℕ → Condition
alone n = if is_even n then Fin n else Inf n

-- c says of the sets behind n that the lowest one is odd
abbrev pub joined : ℕ → Condition → Condition
joined n c = if is_even n then And (Fin n) c else Or (Inf n) c

abbrev pub lowest_is_odd : ℕ → ℕ → Condition
lowest_is_odd n zero = alone n
lowest_is_odd n (suc m) = joined n (lowest_is_odd (n + 1) m)

abbrev pub parity_condition : ℕ → Condition
parity_condition top = lowest_is_odd 0 (top - 1)

-- 38 is `&`, 40 and 41 are the parentheses, 124 is `|`
abbrev pub operand_text : Condition → List ℕ
operand_text (Fin n) = codes "Fin(" ++ (number n ++ 41 ∷ [])
operand_text (Inf n) = codes "Inf(" ++ (number n ++ 41 ∷ [])
operand_text (And c d) = 40 ∷ (operand_text c ++ (38 ∷ (operand_text d ++ 41 ∷ [])))
operand_text (Or c d) = 40 ∷ (operand_text c ++ (124 ∷ (operand_text d ++ 41 ∷ [])))

abbrev pub condition_text : Condition → List ℕ
condition_text (Fin n) = operand_text (Fin n)
condition_text (Inf n) = operand_text (Inf n)
condition_text (And c d) = operand_text c ++ (38 ∷ operand_text d)
condition_text (Or c d) = operand_text c ++ (124 ∷ operand_text d)

-- ---- labels

abbrev pub literal : ℕ → ℕ → List ℕ
literal v n = signed (is_true v n) n

-- 38 is `&`
abbrev pub next_literal : ℕ → ℕ → List ℕ
next_literal v n = 38 ∷ literal v n

abbrev pub label : ℕ → ℕ → List ℕ
label zero v = codes "t"
label (suc k) v = literal v 0 ++ flat_map (next_literal v) (range_with_len 1 k)

-- ---- lines

-- 123 and 125 are the braces
abbrev pub braced : List ℕ → List ℕ
braced word = 123 ∷ (word ++ 125 ∷ [])

abbrev pub move_line : ℕ → ℕ × DetMove → Line
move_line k m = bracketed (label k m.0) ∷ number m.1.to ∷ braced (number m.1.priority) ∷ []

abbrev pub move_text : ℕ → ℕ × DetMove → List ℕ
move_text k m = line_text (move_line k m)

abbrev pub state_text : ℕ → ℕ × List DetMove → List ℕ
state_text k s =
    line_text (state_line s.0) ++ flat_map (move_text k) (enumerate_from 0 s.1)

abbrev pub acceptance_line : ℕ → Line
acceptance_line top = codes "Acceptance:" ∷ number top ∷ condition_text (parity_condition top) ∷ []

abbrev pub head_lines : ℕ → List (List ℕ) → ℕ → List Line
head_lines states props top =
    opening_lines states props ++ (acceptance_line top ∷ body_line ∷ [])

abbrev pub automaton_text : Deterministic → List ℕ
automaton_text d =
    text_of (head_lines (length d.moves) d.props d.top)
    ++ (flat_map (state_text (length d.props)) (enumerate_from 0 d.moves) ++ line_text last_line)

-- ---- what can be written

pub record IsRow (props top states : ℕ) (moves : List DetMove) : Type 0 where
  pub one_each : length moves ≡ 2 ^ props
  pub fit : All (λ (m : DetMove). (m.priority < top) × (m.to < states)) moves

pub record IsWritable (d : Deterministic) : Type 0 where
  pub odd_top : d.top % 2 ≡ 1
  pub few_props : length d.props ≤ most_props
  pub some_state : 1 ≤ length d.moves
  pub rows : All (IsRow (length d.props) d.top (length d.moves)) d.moves

-- ---- laws

-- n is the lowest set below `top` that is met again and again
abbrev pub ConditionIsParity : Type 0
ConditionIsParity = (seen : ℕ → Bool) (top n : ℕ)
    → n < top
    → seen n ≡ true
    → ((m : ℕ) → m < n → seen m ≡ false)
    → (meets seen (parity_condition top) ≡ true) ↔ (n % 2 ≡ 1)
