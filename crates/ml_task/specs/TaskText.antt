-- The text of a task: three lines, and where a text that is none is refused.
--
-- The first line is `inputs` with the names of the inputs behind it, the second one `outputs` with those of the outputs,
-- and the third one `formula`, a blank, and a text of a formula of LTL. What stands behind the last LF is a line too,
-- unless it is empty: so the last LF may be left out. A line that is missing is the line of no words. The rules of a
-- line stand in the order of their numbers, so the first one that it breaks is the lowest.
--
--   task_lines text        == the lines of the text
--   IsTaskText text t      == the text is one of the task t
--   Place, after           == what stands at a line, and behind it
--   rule_number r          == the number of a rule, from 41 on
--   IsNamesLine w line     == the line is the word w, and then words
--   formula_bytes line     == what stands behind the first blank of a line
--   names_rules w seen     == the rules of a line of names, where `seen` were named before
--   task                   == the places with their rules
--   IsTaskFault text f     == f tells the first bad line of the text, and the lowest rule that it breaks
use Rattle.std.specs.Prelude.{ℕ, ◌≡◌, ◌≤◌, ◌+◌, List, [], ◌∷◌, ◌++◌, length, drop, codes, cond, IsTrue}
use Rattle.std.specs.List.{list_all, join_with_byte}
use Rattle.ml_base.specs.declared.doc_fault.DocFault.{DocFault}
use Rattle.ml_ctl.specs.Formula.{Formula}
use Rattle.ml_ctl.specs.Parsing.{IsParsedAs}
use Rattle.ml_ctl.specs.declared.language.Language.TheVariants.{Ltl}
use Rattle.ml_lines.specs.Lines.{Word, Line}
use Rattle.ml_lines.specs.Reading.{AreWords, IsTextBehind, is_word, lines_of, left_of, words_of}
use Rattle.ml_lists.specs.Documents.{Format, Rule, rule, IsFirstBad}
use Rattle.ml_task.specs.Task.{Task, IsTask, most_names, is_named, are_new, knows}
use Rattle.ml_task.specs.declared.task_rule.TaskRule.{TaskRule}
use Rattle.ml_task.specs.declared.task_rule.TaskRule.TheVariants.{OfKind, Named, New, Few, Parses, Known}

-- what stands behind the last LF, as a line, unless it is empty
abbrev pub last_line : List ℕ → List Line
last_line left = cond (is_word left) (words_of left ∷ []) []

abbrev pub task_lines : List ℕ → List Line
task_lines text = lines_of text ++ last_line (left_of text)

pub record IsTaskText (text : List ℕ) (t : Task) : Type 0 where
  pub formula_text : List ℕ
  pub lines_are : task_lines text
      ≡ (codes "inputs" ∷ t.inputs) ∷ (codes "outputs" ∷ t.outputs) ∷ (codes "formula" ∷ words_of formula_text) ∷ []
  pub is_parsed : IsParsedAs Ltl formula_text t.formula
  pub is_task : IsTask t

-- ---- the rules

pub data Place : Type 0 where
  AtInputs : Place
  AtOutputs : List (List ℕ) → Place
  AtFormula : List (List ℕ) → Place
  AtNothing : Place

abbrev pub after : Place → Line → Place
after AtInputs line = AtOutputs (drop 1 line)
after (AtOutputs inputs) line = AtFormula (inputs ++ drop 1 line)
after (AtFormula names) line = AtNothing
after AtNothing line = AtNothing

abbrev pub IsNamesLine : Word → Line → Type 0
IsNamesLine fixed line = AreWords line × (line ≡ fixed ∷ drop 1 line)

abbrev pub formula_bytes : Line → List ℕ
formula_bytes line = join_with_byte 32 (drop 1 line)

abbrev pub rule_number : TaskRule → ℕ
rule_number OfKind = 41
rule_number Named = 42
rule_number New = 43
rule_number Few = 44
rule_number Parses = 45
rule_number Known = 46

abbrev asks : TaskRule → (Line → Type 0) → Rule Line
asks r = rule (rule_number r)

abbrev pub names_rules : Word → List (List ℕ) → List (Rule Line)
names_rules fixed seen =
    asks OfKind (IsNamesLine fixed)
    ∷ asks Named (λ line. IsTrue (list_all is_named (drop 1 line)))
    ∷ asks New (λ line. IsTrue (are_new seen (drop 1 line)))
    ∷ asks Few (λ line. length seen + length (drop 1 line) ≤ most_names)
    ∷ []

abbrev pub rules : Place → List (Rule Line)
rules AtInputs = names_rules (codes "inputs") []
rules (AtOutputs inputs) = names_rules (codes "outputs") inputs
rules (AtFormula names) =
    asks OfKind (IsTextBehind (codes "formula"))
    ∷ asks Parses (λ line. (f : Formula) × IsParsedAs Ltl (formula_bytes line) f)
    ∷ asks Known (λ line. (f : Formula) → IsParsedAs Ltl (formula_bytes line) f → IsTrue (knows names f))
    ∷ []
rules AtNothing = asks OfKind (λ line. line ≡ []) ∷ []

abbrev pub task : Format Line Place
task = record { rules = rules; after = after; missing = [] }

abbrev pub IsTaskFault : List ℕ → DocFault → Type 0
IsTaskFault text fault = IsFirstBad task 1 AtInputs (task_lines text) fault.line fault.rule
