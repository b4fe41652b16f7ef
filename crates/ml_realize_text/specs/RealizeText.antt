-- The documents that tell whether a task can be realized: a machine, an environment, or why neither is told.
--
--   mlsolver realize 1
--   answer A             A is `realizable`, `unrealizable` or `undecided`
--   inputs I ..          the lines of the task, with the formula's canonical text
--   outputs O ..
--   formula F
--   ..                   the body
--   end
--
-- The body of a machine is `states n`, and for each state i a line `state i` and a line `on S give T goto j` for each set S
-- of inputs: there it gives the set T of outputs and goes to state j. That of an environment has in each state a line
-- `play S`, the set of inputs that it sets, and a line `on T goto j` for each set T of outputs. A set is written by its names
-- in the order of the task, or as `-`, if it is empty. States and sets ascend, sets by their numbers, of which bit k stands for
-- the k-th name. The body of what is undecided is one line, `cause positions N` or `cause closure N`.
--
--   Realizability           == realizable, unrealizable or undecided
--   title_line, told_line a == the first line, and the second one, which tells the answer a
--   lines_about a t ws      == the first five lines about the task t, with the words ws for its formula
--   head_lines a t          == so with the formula's canonical text
--   set_words ns s          == the set as words
--   step_line ins outs x    == the line of the step x.1 on the set x.0 of inputs
--   machine_lines ins outs m == the lines of a machine with these inputs and outputs
--   answer_line outs x      == the line of the next state x.1 on the set x.0 of outputs
--   environment_lines ins outs e == the lines of an environment
--   outcome_lines t r       == the body of an outcome
--   Cause, cause_line c     == why a task is undecided: the game has more positions than N, or the automaton more nodes
--   outcome_text t r        == the document of an outcome
--   undecided_text t c      == the document of what is undecided
use Rattle.std.specs.Prelude.{ℕ, List, [], ◌∷◌, ◌++◌, length, map, get_or, codes}
use Rattle.std.specs.List.{flat_map, enumerate_from}
use Rattle.ml_ctl.specs.Canonical.{canonical_text}
use Rattle.ml_lines.specs.Lines.{Line, Word, number, text_of}
use Rattle.ml_synthesis.specs.Machines.{EnvironmentTable, MachineTable}
use Rattle.ml_synthesis.specs.declared.machines.MachineStep.{MachineStep}
use Rattle.ml_synthesis.specs.declared.outcome.Outcome.{Outcome}
use Rattle.ml_synthesis.specs.declared.outcome.Outcome.TheVariants as outcome
use Rattle.ml_task.specs.NameSets.{members}
use Rattle.ml_task.specs.Task.{Task}
use Rattle.ml_realize_text.specs.declared.realizability.Realizability.{Realizability}
use Rattle.ml_realize_text.specs.declared.realizability.Realizability.TheVariants.{Realizable, Undecided, Unrealizable}
use Rattle.ml_realize_text.specs.declared.cause.Cause.{Cause}
use Rattle.ml_realize_text.specs.declared.cause.Cause.TheVariants.{Closure, Positions}

-- ---- the head

abbrev pub answer_word : Realizability → Word
answer_word Realizable = codes "realizable"
answer_word Unrealizable = codes "unrealizable"
answer_word Undecided = codes "undecided"

abbrev pub title_line : Line
title_line = codes "mlsolver" ∷ codes "realize" ∷ codes "1" ∷ []

abbrev pub told_line : Realizability → Line
told_line a = codes "answer" ∷ answer_word a ∷ []

abbrev pub lines_about : Realizability → Task → Line → List Line
lines_about a t words =
    title_line
    ∷ told_line a
    ∷ (codes "inputs" ∷ t.inputs)
    ∷ (codes "outputs" ∷ t.outputs)
    ∷ (codes "formula" ∷ words)
    ∷ []

abbrev pub head_lines : Realizability → Task → List Line
head_lines a t = lines_about a t (canonical_text t.formula ∷ [])

-- ---- sets

abbrev pub or_dash : List Word → List Word
or_dash [] = codes "-" ∷ []
or_dash (n ∷ ns) = n ∷ ns

abbrev pub set_words : List Word → ℕ → List Word
set_words ns s = or_dash (members ns s)

-- ---- machines

abbrev pub states_line : ℕ → Line
states_line n = codes "states" ∷ number n ∷ []

abbrev pub state_line : ℕ → Line
state_line s = codes "state" ∷ number s ∷ []

abbrev pub goto_words : ℕ → List Word
goto_words s = codes "goto" ∷ number s ∷ []

abbrev pub step_line : List Word → List Word → ℕ × MachineStep → Line
step_line ins outs x =
    codes "on" ∷ (set_words ins x.0 ++ (codes "give" ∷ (set_words outs x.1.give ++ goto_words x.1.next)))

abbrev pub machine_state_lines : List Word → List Word → ℕ × List MachineStep → List Line
machine_state_lines ins outs x = state_line x.0 ∷ map (step_line ins outs) (enumerate_from 0 x.1)

abbrev pub machine_lines : List Word → List Word → MachineTable → List Line
machine_lines ins outs m = states_line (length m) ∷ flat_map (machine_state_lines ins outs) (enumerate_from 0 m)

-- ---- environments

abbrev pub play_line : List Word → ℕ → Line
play_line ins s = codes "play" ∷ set_words ins s

abbrev pub answer_line : List Word → ℕ × ℕ → Line
answer_line outs x = codes "on" ∷ (set_words outs x.0 ++ goto_words x.1)

abbrev pub environment_state_lines : List Word → List Word → List (List ℕ) → ℕ × ℕ → List Line
environment_state_lines ins outs next x =
    state_line x.0 ∷ play_line ins x.1 ∷ map (answer_line outs) (enumerate_from 0 (get_or next x.0 []))

abbrev pub environment_lines : List Word → List Word → EnvironmentTable → List Line
environment_lines ins outs e =
    states_line (length e.plays) ∷ flat_map (environment_state_lines ins outs e.next) (enumerate_from 0 e.plays)

-- ---- documents

abbrev pub end_line : Line
end_line = codes "end" ∷ []

abbrev pub outcome_answer : Outcome → Realizability
outcome_answer (outcome.Made m) = Realizable
outcome_answer (outcome.Defeated e) = Unrealizable

abbrev pub outcome_lines : Task → Outcome → List Line
outcome_lines t (outcome.Made m) = machine_lines t.inputs t.outputs m
outcome_lines t (outcome.Defeated e) = environment_lines t.inputs t.outputs e

abbrev pub outcome_text : Task → Outcome → List ℕ
outcome_text t r =
    text_of (head_lines (outcome_answer r) t) ++ (text_of (outcome_lines t r) ++ text_of (end_line ∷ []))

abbrev pub cause_line : Cause → Line
cause_line (Positions n) = codes "cause" ∷ codes "positions" ∷ number n ∷ []
cause_line (Closure n) = codes "cause" ∷ codes "closure" ∷ number n ∷ []

abbrev pub undecided_text : Task → Cause → List ℕ
undecided_text t c = text_of (head_lines Undecided t) ++ text_of (cause_line c ∷ end_line ∷ [])
