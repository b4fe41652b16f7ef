-- Machines and environments of one automaton.
--
-- Where a machine and an environment have the same inputs and outputs, each can play what the other one asks for. They
-- come back to a pair of states, so they make a word lasso, and that is a word of both. So of no set of words all words
-- of a machine are outside, and all words of an environment inside. And of an automaton there is always one of the two.
--
--   CommonWord  == a machine and an environment have a word in common
--   SomeOutcome == of an automaton there is a machine that is right, or an environment that defeats all machines
--   NeverBoth   == and never both
--   MoreOrFew   == more than so many positions of its game are reached, or they aren't
use Rattle.std.specs.Prelude.{ℕ, ◌⊎◌, List}
use Rattle.ml_trace.specs.WordAutomata.{WordLasso}
use Rattle.ml_determinise.specs.Numbering.{automaton_of}
use Rattle.ml_determinise.specs.declared.moves.DetMove.{DetMove}
use Rattle.ml_synthesis.specs.Game.{HasMorePositions}
use Rattle.ml_synthesis.specs.Machines.{MachineTable, MachineFits, IsMachineWord}
use Rattle.ml_synthesis.specs.Machines.{EnvironmentTable, EnvironmentFits, IsEnvironmentWord}
use Rattle.ml_synthesis.specs.Synthesis.{IsAccessible, IsAutomaton, IsDefeat, IsMade, IsOutcome}
use Rattle.ml_synthesis.specs.declared.outcome.Outcome.{Outcome}

abbrev pub CommonWord : Type 0
CommonWord =
    (i o : ℕ) (m : MachineTable) (e : EnvironmentTable)
    → MachineFits i o m
    → EnvironmentFits i o e
    → (w : WordLasso ℕ) × IsMachineWord i m w × IsEnvironmentWord i o e w

abbrev pub SomeOutcome : Type 0
SomeOutcome =
    (i o neutral : ℕ) (moves : List (List DetMove)) → IsAutomaton i o neutral moves
    → (r : Outcome) × IsOutcome i o neutral moves r

abbrev pub NeverBoth : Type 0
NeverBoth =
    (i o neutral : ℕ) (moves : List (List DetMove)) (m : MachineTable) (e : EnvironmentTable)
    → IsMade i o moves m
    → ¬ (IsDefeat i o neutral moves e)

abbrev pub MoreOrFew : Type 0
MoreOrFew =
    (i o neutral : ℕ) (moves : List (List DetMove)) (limit : ℕ)
    → IsAutomaton i o neutral moves
    → IsAccessible i o moves
    → HasMorePositions (automaton_of moves) 0 neutral i o limit
    ⊎ ¬ (HasMorePositions (automaton_of moves) 0 neutral i o limit)
