-- What is true of tasks.
--
-- Readings of a task may differ in the names of their graphs. Neither their size nor the number of positions does.
--
--   NeverBoth           == no task has both a machine that realizes it and an environment that defeats it
--   MachineFails t m    == some word of the machine m doesn't satisfy the formula of t
--   EnvironmentFails t e == some word of the environment e satisfies it
--   OneFails            == of a machine and an environment with the inputs and outputs of a task, one fails
--   OneSize             == a task is large exactly where the graph of a reading has more than the most nodes
--   OneGame             == where the game of one reading has more than n positions, that of each other one has
--   SomeOutcome         == a task is large, or its game has more than n positions, or an outcome is found
--   FoundAreRight       == an outcome that is found of a task as it is read is right
--   ValuationsAreSets   == the letter of a valuation has the names of its set of inputs, and then those of its set of outputs
use Rattle.std.specs.Prelude.{ℕ, ◌≡◌, ◌^◌, ◌<◌, ◌++◌, ◌↔◌, ◌⊎◌, List, length}
use Rattle.ml_graph.specs.Graph.{size}
use Rattle.ml_synthesis.specs.Machines.{EnvironmentFits, EnvironmentTable, IsEnvironmentWord, IsMachineWord, MachineFits, MachineTable, valuation}
use Rattle.ml_synthesis.specs.declared.outcome.Outcome.{Outcome}
use Rattle.ml_task.specs.NameSets.{members}
use Rattle.ml_task.specs.Task.{IsTask, Task, names_of}
use Rattle.ml_trace.specs.WordAutomata.{WordLasso}
use Rattle.ml_word_automaton.specs.Words.{SatisfiedBy}
use Rattle.ml_realize.specs.Realizing.{Defeats, IsRight, Realizes, inputs_of, outputs_of, word_of}
use Rattle.ml_realize.specs.TaskGame.{HasMore, IsFound, IsLarge, PassesLimit, Reading, most_nodes}

abbrev pub NeverBoth : Type 0
NeverBoth = (t : Task) (m : MachineTable) (e : EnvironmentTable) → Realizes t m → ¬ (Defeats t e)

abbrev pub MachineFails : Task → MachineTable → Type 0
MachineFails t m =
    (w : WordLasso ℕ) × IsMachineWord (inputs_of t) m w × ¬ (SatisfiedBy (word_of (names_of t) w) t.formula)

abbrev pub EnvironmentFails : Task → EnvironmentTable → Type 0
EnvironmentFails t e =
    (w : WordLasso ℕ)
    × IsEnvironmentWord (inputs_of t) (outputs_of t) e w
    × SatisfiedBy (word_of (names_of t) w) t.formula

abbrev pub OneFails : Type 0
OneFails =
    (t : Task) (m : MachineTable) (e : EnvironmentTable)
    → IsTask t
    → MachineFits (inputs_of t) (outputs_of t) m
    → EnvironmentFits (inputs_of t) (outputs_of t) e
    → MachineFails t m ⊎ EnvironmentFails t e

abbrev pub OneSize : Type 0
OneSize = (t : Task) (r : Reading t) → IsLarge t ↔ (most_nodes < size r.automaton.graph)

abbrev pub OneGame : Type 0
OneGame = (t : Task) (r s : Reading t) (n : ℕ) → HasMore r n → HasMore s n

abbrev pub SomeOutcome : Type 0
SomeOutcome = (t : Task) (n : ℕ) → IsLarge t ⊎ (PassesLimit t n ⊎ ((r : Outcome) × IsFound t n r))

abbrev pub FoundAreRight : Type 0
FoundAreRight = (t : Task) (n : ℕ) (r : Outcome) → IsTask t → IsFound t n r → IsRight t r

abbrev pub ValuationsAreSets : Type 0
ValuationsAreSets = (ins outs : List (List ℕ)) (s u : ℕ)
    → s < 2 ^ length ins
    → members (ins ++ outs) (valuation (length ins) s u) ≡ members ins s ++ members outs u
