-- Whether a machine realizes a task, or an environment defeats it, told by its words.
--
-- For a machine a word is looked for that doesn't satisfy the formula: the problem is negated. For an environment it is one
-- that satisfies it, and the problem is plain.
--
--   most_nodes        == how many nodes the graph of the word automaton may have
--   Fits t r          == r is a machine or an environment with the inputs and outputs of t
--   IsWordOf t r w    == w is a word of r
--   sense_of r        == the sense of the problem: true where it is negated
--   Breaks t r w      == the word w is one of r, and shows that r isn't right
--   IsLarge t r       == the graph of the word automaton has more than the most nodes
--   IsChecked t r c   == c is what is found of r
use Rattle.std.specs.Prelude.{ℕ, Bool, true, false}
use Rattle.ml_blocks.specs.Closures.{HasMoreThan}
use Rattle.ml_ltl.specs.Problem.{in_sense}
use Rattle.ml_realize.specs.Realizing.{IsRight, inputs_of, outputs_of, word_of}
use Rattle.ml_synthesis.specs.Machines.{EnvironmentFits, IsEnvironmentWord, IsMachineWord, MachineFits}
use Rattle.ml_synthesis.specs.declared.outcome.Outcome.{Outcome}
use Rattle.ml_synthesis.specs.declared.outcome.Outcome.TheVariants as outcome
use Rattle.ml_task.specs.Task.{Task, names_of}
use Rattle.ml_trace.specs.WordAutomata.{WordLasso}
use Rattle.ml_word_automaton.specs.WordAutomaton.{start_block}
use Rattle.ml_word_automaton.specs.Words.{SatisfiedBy}
use Rattle.ml_machine_check.specs.declared.checking.TheConstants.{MOST_NODES}
use Rattle.ml_machine_check.specs.declared.found.MachineVerdict.{MachineVerdict}
use Rattle.ml_machine_check.specs.declared.found.MachineVerdict.TheVariants as found

abbrev pub most_nodes : ℕ
most_nodes = MOST_NODES

abbrev pub Fits : Task → Outcome → Type 0
Fits t (outcome.Made m) = MachineFits (inputs_of t) (outputs_of t) m
Fits t (outcome.Defeated e) = EnvironmentFits (inputs_of t) (outputs_of t) e

abbrev pub IsWordOf : Task → Outcome → WordLasso ℕ → Type 0
IsWordOf t (outcome.Made m) w = IsMachineWord (inputs_of t) m w
IsWordOf t (outcome.Defeated e) w = IsEnvironmentWord (inputs_of t) (outputs_of t) e w

abbrev pub sense_of : Outcome → Bool
sense_of (outcome.Made m) = true
sense_of (outcome.Defeated e) = false

pub record Breaks (t : Task) (r : Outcome) (w : WordLasso ℕ) : Type 0 where
  pub is_word : IsWordOf t r w
  pub satisfies : SatisfiedBy (word_of (names_of t) w) (in_sense (sense_of r) t.formula)

abbrev pub IsLarge : Task → Outcome → Type 0
IsLarge t r = HasMoreThan (start_block t.formula (sense_of r)) most_nodes

abbrev pub IsChecked : Task → Outcome → MachineVerdict → Type 0
IsChecked t r found.Holds = (¬ (IsLarge t r)) × IsRight t r
IsChecked t r (found.Fails w) = (¬ (IsLarge t r)) × Breaks t r w
IsChecked t r found.ClosureTooLarge = IsLarge t r
