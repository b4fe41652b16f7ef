-- The realizability game over a deterministic parity automaton.
--
-- The automaton reads valuations, and accepts the words that are bad for a machine. Odd, who is for the environment,
-- and Even, who is for the machine, make a word together: at a state of the automaton Odd chooses a set of inputs, and
-- then, knowing it, Even chooses a set of outputs. The automaton reads the valuation and goes to its next state. The
-- priority of this move belongs to the position behind it; a position in which Even chooses has the neutral priority,
-- which decides nothing.
--
--   Position S             == a state with the priority with which it was reached, or a state with a set of inputs
--   Moves d i o x y        == the position y is behind x
--   IsReached d s neutral i o x == x is reached from the state s with the neutral priority
--   HasMorePositions d s neutral i o n == more than n different positions are reached
use Rattle.std.specs.Prelude.{ℕ, ◌^◌, ◌<◌, List, length}
use Rattle.ml_lists.specs.Member.{IsMember}
use Rattle.ml_lists.proofs.FirstEntries.{AreApart}
use Rattle.ml_trace.specs.WordAutomata.{DetAutomaton}
use Rattle.ml_synthesis.specs.Machines.{valuation}

pub data Position (S : Type 0) : Type 0 where
  -- Odd chooses a set of inputs
  at_state : (state : S) (priority : ℕ) → Position S
  -- Even chooses a set of outputs
  with_inputs : (state : S) (ins : ℕ) → Position S

pub data Moves {S : Type 0} (d : DetAutomaton S ℕ) (i o : ℕ) : Position S → Position S → Type 0 where
  by_inputs : (q : S) (p ins : ℕ) → ins < 2 ^ i → Moves d i o (at_state q p) (with_inputs q ins)
  by_outputs : (q : S) (ins outs : ℕ)
      → outs < 2 ^ o
      → Moves d i o (with_inputs q ins)
      (at_state (d.next q (valuation i ins outs)) (d.priority q (valuation i ins outs)))

pub data IsReached {S : Type 0} (d : DetAutomaton S ℕ) (s : S) (neutral i o : ℕ) : Position S → Type 0 where
  at_start : IsReached d s neutral i o (at_state s neutral)
  along : (x y : Position S) → IsReached d s neutral i o x → Moves d i o x y → IsReached d s neutral i o y

-- more than n different positions are reached
pub record HasMorePositions {S : Type 0} (d : DetAutomaton S ℕ) (s : S) (neutral i o n : ℕ) : Type 0 where
  pub positions : List (Position S)
  pub are_apart : AreApart positions
  pub are_reached : (x : Position S) → IsMember x positions → IsReached d s neutral i o x
  pub are_more : n < length positions
