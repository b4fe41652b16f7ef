-- What the reader of a document knows. Private contracts and proofs cite this.
--
--   machine_of ins outs, environment_of ins outs == what was told of a machine, or of an environment, with these names
--   HasRoom at              == the numbers of the lines that are left fit 64 bits
--   Goes at ls rest         == from `at` the text goes on with the lines ls, and then with the rest
--   Breaks p line r         == r is the first rule that a line at p breaks
--   TellsFault p at e       == the refusal e tells the first bad line of what is left, which stands at p, if it isn't for want
--                              of memory
--   numbered_rules w rs     == the rules of a line of the word w and a number, and then the rules rs
--   on_words names s w ws   == `on`, the words of the set s, the word w and the words ws
--   IsPlayed line           == the line is `play` and some words
--   StepFits o n x          == the step x gives a set of o outputs, and leads to one of n states
--   RowFits i o n row       == the row has a step for each set of i inputs, each of which fits
--   PlayRow, PlayFits i o n row == what a state of an environment plays, with its next states: a set of i inputs, and one of n
--                              states for each set of o outputs
--   played_lines ins outs i row == the lines of the state i, of which this is the row
--   IsBody at ls            == what is left is the lines ls and `end`, and nothing behind it
--   IsEnded at              == what is left is `end` alone
--   IsStep ins outs n s l x == the line l is that of the step x on the set s, and x fits
--   IsReply outs n s l x    == the line l leads to x on the set s, which is one of n states
--   answer_of b             == the answer of a document whose body is so
--   AreFirst n lines more   == these are the first n lines of those that `more` goes on, or there are fewer, and no more
--   IsBehindLine at rest    == the rest stands behind the next line, or is the same, where there is none
--   IsBehindTask at rest    == the rest stands behind the three lines of a task, or behind all lines
--   IsTaskRead at t rest    == the next three lines are those of the task t, and the rest stands behind
--   signals_of a t          == the answer a, and the names of the task t
--   state_lines t r         == the lines of the states of the outcome r
--   AreStatesRead at a t n r rest == the text goes on with the lines of the n states of the outcome r of the task t, which the
--                              answer a tells, and then with the rest
--   IsBodyRead at a t r     == what is left is the body of the outcome r of the task t, which the answer a tells
use Rattle.std.specs.Prelude.{ℕ, ◌≡◌, ◌+◌, ◌<◌, ◌≤◌, ◌^◌, ◌⊎◌, ⊤, List, [], ◌∷◌, ◌++◌, codes, length, map}
use Rattle.std.specs.List.{AllByRecursion, enumerate_from, flat_map}
use Rattle.ml_base.specs.declared.doc_refusal.DocRefusal.{DocRefusal}
use Rattle.ml_base.specs.declared.doc_refusal.DocRefusal.TheVariants as refused
use Rattle.ml_ctl.specs.Parsing.{IsParsedAs}
use Rattle.ml_ctl.specs.declared.language.Language.TheVariants.{Ltl}
use Rattle.ml_lines.specs.Faults.{IsFault}
use Rattle.ml_lines.specs.Lines.{Line, Word}
use Rattle.ml_lines.specs.Reading.{AreWords, IsNumber, IsTextBehind, IsWordBehind, left_of, lines_of, word, words_of}
use Rattle.ml_lists.specs.Documents.{IsFirstBroken, Rule, rule}
use Rattle.ml_synthesis.specs.declared.machines.MachineStep.{MachineStep}
use Rattle.ml_synthesis.specs.declared.outcome.Outcome.{Outcome}
use Rattle.ml_synthesis.specs.declared.outcome.Outcome.TheVariants as outcome
use Rattle.ml_task.specs.Task.{IsTask, Task}
use Rattle.ml_realize_text.specs.ReadText.{Fits, states_of}
use Rattle.ml_realize_text.specs.RealizeRules.{Place, Signals, realize, rule_number, rules}
use Rattle.ml_realize_text.specs.RealizeText.{answer_line, end_line, environment_state_lines, machine_state_lines, outcome_answer, outcome_lines, play_line, set_words, state_line, step_line}
use Rattle.ml_realize_text.specs.declared.realizability.Realizability.{Realizability}
use Rattle.ml_realize_text.specs.declared.realizability.Realizability.TheVariants.{Realizable, Unrealizable}
use Rattle.ml_realize_text.specs.declared.head.BodyOf.{BodyOf}
use Rattle.ml_realize_text.specs.declared.head.BodyOf.TheVariants.{AMachine, AnEnvironment}
use Rattle.ml_realize_text.specs.declared.line_rule.LineRule.{LineRule}
use Rattle.ml_realize_text.specs.declared.rest.Rest.{Rest}

abbrev pub machine_of : List Word → List Word → Signals
machine_of ins outs = record { answer = Realizable; inputs = ins; outputs = outs }

abbrev pub environment_of : List Word → List Word → Signals
environment_of ins outs = record { answer = Unrealizable; inputs = ins; outputs = outs }

-- ---- from line to line

abbrev pub HasRoom : Rest → Type 0
HasRoom at = at.line + length at.text.now < 2 ^ 64

pub record Goes (at : Rest) (lines : List Line) (rest : Rest) : Type 0 where
  pub lines_are : lines_of at.text.now ≡ lines ++ lines_of rest.text.now
  pub left_is : left_of at.text.now ≡ left_of rest.text.now
  pub counted : rest.line ≡ at.line + length lines
  pub shorter : length rest.text.now + length lines ≤ length at.text.now

-- ---- refusals

abbrev pub Breaks : Place → Line → LineRule → Type 0
Breaks p line r = (left : List ℕ) → IsFirstBroken (rules left p) line (rule_number r)

abbrev pub TellsFault : Place → Rest → DocRefusal → Type 0
TellsFault p at (refused.Fault fault) = IsFault realize at.line p at.text.now fault
TellsFault p at refused.NoMemory = ⊤

-- ---- lines

abbrev pub numbered_rules : Word → List (Rule Line) → List (Rule Line)
numbered_rules fixed others =
    rule 51 (IsWordBehind fixed) ∷ rule 52 (λ line. IsNumber (word line 1)) ∷ others

abbrev pub on_words : List Word → ℕ → Word → List Word → Line
on_words names s w ws = codes "on" ∷ (set_words names s ++ (w ∷ ws))

abbrev pub IsPlayed : Line → Type 0
IsPlayed line = AreWords line × IsTextBehind (codes "play") line

pub record StepFits (o n : ℕ) (x : MachineStep) : Type 0 where
  pub gives : x.give < 2 ^ o
  pub leads : x.next < n

pub record RowFits (i o n : ℕ) (row : List MachineStep) : Type 0 where
  pub a_step_each : length row ≡ 2 ^ i
  pub fit : AllByRecursion (StepFits o n) row

abbrev pub PlayRow : Type 0
PlayRow = ℕ × List ℕ

pub record PlayFits (i o n : ℕ) (row : PlayRow) : Type 0 where
  pub plays : row.0 < 2 ^ i
  pub a_next_each : length row.1 ≡ 2 ^ o
  pub lead : AllByRecursion (λ x. x < n) row.1

abbrev pub played_lines : List Word → List Word → ℕ → PlayRow → List Line
played_lines ins outs i row =
    state_line i ∷ play_line ins row.0 ∷ map (answer_line outs) (enumerate_from 0 row.1)

pub record IsBody (at : Rest) (lines : List Line) : Type 0 where
  pub lines_are : lines_of at.text.now ≡ lines ++ end_line ∷ []
  pub none_left : left_of at.text.now ≡ []

abbrev pub IsEnded : Rest → Type 0
IsEnded at = IsBody at []

pub record IsStep (ins outs : List Word) (n s : ℕ) (line : Line) (x : MachineStep) : Type 0 where
  pub line_is : line ≡ step_line ins outs (s, x)
  pub fits : StepFits (length outs) n x

pub record IsReply (outs : List Word) (n s : ℕ) (line : Line) (x : ℕ) : Type 0 where
  pub line_is : line ≡ answer_line outs (s, x)
  pub leads : x < n

-- ---- before the body

abbrev pub answer_of : BodyOf → Realizability
answer_of AMachine = Realizable
answer_of AnEnvironment = Unrealizable

abbrev pub AreFirst : ℕ → List Line → List Line → Type 0
AreFirst n lines more = (length lines ≡ n) ⊎ ((length lines < n) × (more ≡ []))

abbrev pub IsBehindLine : Rest → Rest → Type 0
IsBehindLine at rest = ((line : Line) × Goes at (line ∷ []) rest) ⊎ ((lines_of at.text.now ≡ []) × (rest ≡ at))

abbrev pub IsBehindTask : Rest → Rest → Type 0
IsBehindTask at rest = (lines : List Line) × Goes at lines rest × AreFirst 3 lines (lines_of rest.text.now)

pub record IsTaskRead (at : Rest) (t : Task) (rest : Rest) : Type 0 where
  pub formula_text : List ℕ
  pub goes : Goes at
      ((codes "inputs" ∷ t.inputs) ∷ (codes "outputs" ∷ t.outputs) ∷ (codes "formula" ∷ words_of formula_text) ∷ [])
      rest
  pub is_parsed : IsParsedAs Ltl formula_text t.formula
  pub is_task : IsTask t

abbrev pub signals_of : Realizability → Task → Signals
signals_of a t = record { answer = a; inputs = t.inputs; outputs = t.outputs }

abbrev pub state_lines : Task → Outcome → List Line
state_lines t (outcome.Made m) = flat_map (machine_state_lines t.inputs t.outputs) (enumerate_from 0 m)
state_lines t (outcome.Defeated e) = flat_map (environment_state_lines t.inputs t.outputs e.next) (enumerate_from 0 e.plays)

pub record AreStatesRead (at : Rest) (a : Realizability) (t : Task) (n : ℕ) (r : Outcome) (rest : Rest) : Type 0 where
  pub answer_is : outcome_answer r ≡ a
  pub goes : Goes at (state_lines t r) rest
  pub fits : Fits t r
  pub counted : states_of r ≡ n

pub record IsBodyRead (at : Rest) (a : Realizability) (t : Task) (r : Outcome) : Type 0 where
  pub answer_is : outcome_answer r ≡ a
  pub body : IsBody at (outcome_lines t r)
  pub fits : Fits t r
  pub few : states_of r < 2 ^ 32
