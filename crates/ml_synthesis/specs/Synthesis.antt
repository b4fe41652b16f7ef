-- What is made of a deterministic parity automaton over valuations, and why.
--
-- The automaton accepts the words that are bad for a machine. A machine is right if none of its words is accepted; an
-- environment defeats all machines if each of its words is.
--
-- Which one is made: each state of the machine stands for another state of the automaton, state 0 for state 0, and its
-- steps go along with the automaton's moves. So what a machine gives depends on the automaton's state and the set of
-- inputs alone. Each state of the environment stands for another pair of a state of the automaton and the priority with
-- which it was reached, state 0 for state 0 with the neutral one. The states of both are numbered breadth first from 0,
-- sets ascending, so that each of them is reached.
--
--   IsAutomaton i o neutral moves  == the moves are those of an automaton over valuations; the neutral priority is
--                                     even, and none is greater
--   IsAccessible i o moves         == each state is reached from state 0
--   IsMade i o moves m             == m is a machine made for the moves, and right
--   IsDefeat i o neutral moves e   == e is an environment made for the moves, and defeats all machines
--   IsOutcome i o neutral moves r  == r is one or the other
use Rattle.std.specs.Prelude.{ℕ, ◌≡◌, ◌+◌, ◌%◌, ◌^◌, ◌<◌, ◌≤◌, List, [], length, map, get_or, All}
use Rattle.std.specs.List.{range_with_len}
use Rattle.ml_lists.specs.BreadthFirst.{IsBreadthFirst}
use Rattle.ml_trace.specs.WordAutomata.{WordLasso, IsDetAcceptedFrom, state_behind}
use Rattle.ml_determinise.specs.Numbering.{automaton_of, move_at}
use Rattle.ml_determinise.specs.declared.moves.DetMove.{DetMove}
use Rattle.ml_synthesis.specs.Machines.{MachineTable, MachineFits, IsMachineWord, step_at, valuation}
use Rattle.ml_synthesis.specs.Machines.{EnvironmentTable, EnvironmentFits, IsEnvironmentWord, play_at, next_at}
use Rattle.ml_synthesis.specs.declared.machines.MachineStep.{MachineStep}
use Rattle.ml_synthesis.specs.declared.outcome.Outcome.{Outcome}
use Rattle.ml_synthesis.specs.declared.outcome.Outcome.TheVariants as outcome

-- ---- the automaton

-- one move for each valuation, to a state, and with a priority up to the neutral one
pub record IsAutomaton (i o neutral : ℕ) (moves : List (List DetMove)) : Type 0 where
  pub some : 0 < length moves
  pub a_move_each : (q : ℕ) → q < length moves → length (get_or moves q []) ≡ 2 ^ (i + o)
  pub leads : (q v : ℕ) → q < length moves → v < 2 ^ (i + o) → (move_at moves q v).to < length moves
  pub low : (q v : ℕ) → q < length moves → v < 2 ^ (i + o) → (move_at moves q v).priority ≤ neutral
  pub neutral_even : neutral % 2 ≡ 0

-- some word leads from state 0 to each state
abbrev pub IsAccessible : ℕ → ℕ → List (List DetMove) → Type 0
IsAccessible i o moves =
    (q : ℕ) → q < length moves
    → (word : List ℕ) × All (λ v. v < 2 ^ (i + o)) word × (state_behind (automaton_of moves) 0 word ≡ q)

-- the states from 0 on are numbered breadth first, where each leads to those of its row
abbrev pub AreInOrder : List (List ℕ) → Type 0
AreInOrder rows = IsBreadthFirst 0 rows (range_with_len 0 (length rows))

-- ---- the machine

abbrev pub nexts : List MachineStep → List ℕ
nexts steps = map (λ x. x.next) steps

-- each state of m stands for another state of the automaton, and its steps go along with the moves
pub record MachineStands (i : ℕ) (moves : List (List DetMove)) (m : MachineTable) : Type 0 where
  pub state : ℕ → ℕ
  pub begins : state 0 ≡ 0
  pub apart : (s t : ℕ) → s < length m → t < length m → state s ≡ state t → s ≡ t
  pub follows : (s ins : ℕ) → s < length m → ins < 2 ^ i
      → state (step_at m s ins).next ≡ (move_at moves (state s) (valuation i ins (step_at m s ins).give)).to

pub record IsMade (i o : ℕ) (moves : List (List DetMove)) (m : MachineTable) : Type 0 where
  pub fits : MachineFits i o m
  pub right : (w : WordLasso ℕ) → IsMachineWord i m w → ¬ (IsDetAcceptedFrom (automaton_of moves) 0 w)
  pub stands : MachineStands i moves m
  pub in_order : AreInOrder (map nexts m)

-- ---- the environment

-- each state of e stands for another pair of a state and a priority, as a move has them, and e goes along with the
-- moves
pub record EnvironmentStands (i o neutral : ℕ) (moves : List (List DetMove)) (e : EnvironmentTable) : Type 0 where
  pub pair : ℕ → DetMove
  pub begins : pair 0 ≡ record { priority = neutral; to = 0 }
  pub apart : (s t : ℕ) → s < length e.plays → t < length e.plays → pair s ≡ pair t → s ≡ t
  pub follows : (s outs : ℕ) → s < length e.plays → outs < 2 ^ o
      → pair (next_at e s outs) ≡ move_at moves (pair s).to (valuation i (play_at e s) outs)

pub record IsDefeat (i o neutral : ℕ) (moves : List (List DetMove)) (e : EnvironmentTable) : Type 0 where
  pub fits : EnvironmentFits i o e
  pub defeats : (w : WordLasso ℕ) → IsEnvironmentWord i o e w → IsDetAcceptedFrom (automaton_of moves) 0 w
  pub stands : EnvironmentStands i o neutral moves e
  pub in_order : AreInOrder e.next

-- ---- one or the other

abbrev pub IsOutcome : ℕ → ℕ → ℕ → List (List DetMove) → Outcome → Type 0
IsOutcome i o neutral moves (outcome.Made m) = IsMade i o moves m
IsOutcome i o neutral moves (outcome.Defeated e) = IsDefeat i o neutral moves e
