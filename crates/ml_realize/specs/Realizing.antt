-- When a machine realizes a task, and when an environment defeats it.
--
-- A valuation says which of the names of a task are true at a moment, first the inputs and then the outputs: it is a set of
-- these names, as a number. So the words of a machine and of an environment, which are words of valuations, are words of
-- letters, each with the names that are true. A machine realizes the task if each of its words satisfies the formula,
-- whatever the inputs are; an environment defeats it if none of its words does, whatever a machine answers.
--
--   inputs_of t, outputs_of t == how many inputs and outputs t has
--   word_of ns w           == the word w of valuations, as a word of letters over the names ns
--   Realizes t m           == the machine m has the inputs and outputs of t, and each of its words satisfies the formula
--   Defeats t e            == the environment e has them, and none of its words satisfies the formula
--   IsRight t r            == the outcome r is a machine that realizes t, or an environment that defeats it
use Rattle.std.specs.Prelude.{ℕ, List, length, map}
use Rattle.ml_synthesis.specs.Machines.{EnvironmentFits, EnvironmentTable, IsEnvironmentWord, IsMachineWord, MachineFits, MachineTable}
use Rattle.ml_synthesis.specs.declared.outcome.Outcome.{Outcome}
use Rattle.ml_synthesis.specs.declared.outcome.Outcome.TheVariants as outcome
use Rattle.ml_task.specs.NameSets.{members}
use Rattle.ml_task.specs.Task.{Task, names_of}
use Rattle.ml_trace.specs.WordAutomata.{WordLasso}
use Rattle.ml_word_automaton.specs.Words.{Letter, SatisfiedBy}

abbrev pub inputs_of : Task → ℕ
inputs_of t = length t.inputs

abbrev pub outputs_of : Task → ℕ
outputs_of t = length t.outputs

abbrev pub word_of : List (List ℕ) → WordLasso ℕ → WordLasso Letter
word_of ns w = record { word = map (members ns) w.word; loop_start = w.loop_start }

pub record Realizes (t : Task) (m : MachineTable) : Type 0 where
  pub fits : MachineFits (inputs_of t) (outputs_of t) m
  pub satisfies : (w : WordLasso ℕ) → IsMachineWord (inputs_of t) m w → SatisfiedBy (word_of (names_of t) w) t.formula

pub record Defeats (t : Task) (e : EnvironmentTable) : Type 0 where
  pub fits : EnvironmentFits (inputs_of t) (outputs_of t) e
  pub excludes : (w : WordLasso ℕ)
      → IsEnvironmentWord (inputs_of t) (outputs_of t) e w
      → ¬ (SatisfiedBy (word_of (names_of t) w) t.formula)

abbrev pub IsRight : Task → Outcome → Type 0
IsRight t (outcome.Made m) = Realizes t m
IsRight t (outcome.Defeated e) = Defeats t e
