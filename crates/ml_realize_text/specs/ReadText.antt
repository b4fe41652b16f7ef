-- What a document of a machine or an environment stands for, where it is read.
--
-- It stands for a task and an outcome. Its lines are those that are written of them, but that any text that is parsed as the
-- formula may stand in place of its canonical text. Each line has its LF.
--
--   Fits t r                 == r is a machine or an environment with the inputs and outputs of t
--   states_of r              == how many states it has
--   IsRealizeText text t r   == the text is a document of the task t and the outcome r
use Rattle.std.specs.Prelude.{ℕ, ◌≡◌, ◌<◌, ◌^◌, List, [], ◌∷◌, ◌++◌, length}
use Rattle.ml_ctl.specs.Parsing.{IsParsedAs}
use Rattle.ml_ctl.specs.declared.language.Language.TheVariants.{Ltl}
use Rattle.ml_lines.specs.Reading.{left_of, lines_of, words_of}
use Rattle.ml_synthesis.specs.Machines.{EnvironmentFits, MachineFits}
use Rattle.ml_synthesis.specs.declared.outcome.Outcome.{Outcome}
use Rattle.ml_synthesis.specs.declared.outcome.Outcome.TheVariants as outcome
use Rattle.ml_task.specs.Task.{IsTask, Task}
use Rattle.ml_realize_text.specs.RealizeText.{end_line, lines_about, outcome_answer, outcome_lines}

abbrev pub Fits : Task → Outcome → Type 0
Fits t (outcome.Made m) = MachineFits (length t.inputs) (length t.outputs) m
Fits t (outcome.Defeated e) = EnvironmentFits (length t.inputs) (length t.outputs) e

abbrev pub states_of : Outcome → ℕ
states_of (outcome.Made m) = length m
states_of (outcome.Defeated e) = length e.plays

pub record IsRealizeText (text : List ℕ) (t : Task) (r : Outcome) : Type 0 where
  pub formula_text : List ℕ
  pub lines_are : lines_of text
      ≡ lines_about (outcome_answer r) t (words_of formula_text) ++ (outcome_lines t r ++ end_line ∷ [])
  pub none_left : left_of text ≡ []
  pub is_parsed : IsParsedAs Ltl formula_text t.formula
  pub is_task : IsTask t
  pub fits : Fits t r
  -- the number of states is one of 32 bits
  pub few : states_of r < 2 ^ 32
