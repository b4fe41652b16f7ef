-- What is known of the lines of a task that were read. Private contracts and proofs cite this.
--
--   first_of lines             == the first of the lines, or the line of no words
--   Breaks place lines r       == r is the first rule that the first of the lines breaks at this place
--   Tells place lines e        == the refusal e tells it, if it isn't for want of memory
--   AreNamesRead w seen lines names rest == the first line is that of these names, and good; the others are `rest`
--   AreSignalsRead text ins outs rest    == the lines of the text are those of these inputs and outputs, both good, and then
--                                 the rest
--   IsFormulaRead names lines f rest     == the first line is that of the formula f, and good; the others are `rest`
--   TellsFault text e          == the refusal e tells the first bad line of the text, if it isn't for want of memory
--   TellsFaultBehind names lines e == it does of each text with the signals `names`, behind which these lines stand
--   formula_refusal e          == the refusal of a line whose text the parser refuses with e
--   at_line k e                == the refusal of a text whose line k is refused with e
use Rattle.std.specs.Prelude.{ℕ, ◌≡◌, ⊤, List, [], ◌∷◌, ◌++◌, codes, slice_index_or, IsTrue}
use Rattle.ml_base.specs.declared.doc_refusal.DocRefusal.{DocRefusal}
use Rattle.ml_base.specs.declared.doc_refusal.DocRefusal.TheVariants as refused
use Rattle.ml_base.specs.declared.parse_refusal.ParseRefusal.{ParseRefusal}
use Rattle.ml_base.specs.declared.parse_refusal.ParseRefusal.TheVariants as parser
use Rattle.ml_ctl.specs.Formula.{Formula}
use Rattle.ml_ctl.specs.Parsing.{IsParsedAs}
use Rattle.ml_ctl.specs.declared.language.Language.TheVariants.{Ltl}
use Rattle.ml_lines.specs.Lines.{Word, Line}
use Rattle.ml_lines.specs.Reading.{words_of}
use Rattle.ml_lists.specs.Documents.{Rule, IsFirstBroken, KeepsAll}
use Rattle.ml_task.specs.Task.{knows}
use Rattle.ml_task.specs.TaskText.{IsTaskFault, names_rules, rule_number, task_lines}
use Rattle.ml_task.specs.declared.task_rule.TaskRule.{TaskRule}
use Rattle.ml_task.specs.declared.task_rule.TaskRule.TheVariants.{Parses}
use Rattle.ml_lines.specs.declared.refusal.LineRefusal.{LineRefusal}
use Rattle.ml_lines.specs.declared.refusal.LineRefusal.TheVariants as line

abbrev pub first_of : List Line → Line
first_of lines = slice_index_or lines 0 []

abbrev pub Breaks : List (Rule Line) → Line → TaskRule → Type 0
Breaks rs l r = IsFirstBroken rs l (rule_number r)

abbrev pub Tells : List (Rule Line) → Line → LineRefusal TaskRule → Type 0
Tells rs l (line.Breaks rule) = Breaks rs l rule
Tells rs l line.NoMemory = ⊤

pub record AreNamesRead (fixed : Word) (seen : List (List ℕ)) (lines : List Line) (names : List (List ℕ)) (rest : List Line) : Type 0 where
  pub lines_are : lines ≡ (fixed ∷ names) ∷ rest
  pub keeps : KeepsAll (names_rules fixed seen) (fixed ∷ names)

pub record AreSignalsRead (text : List ℕ) (inputs outputs : List (List ℕ)) (rest : List Line) : Type 0 where
  pub lines_are : task_lines text ≡ (codes "inputs" ∷ inputs) ∷ (codes "outputs" ∷ outputs) ∷ rest
  pub inputs_good : KeepsAll (names_rules (codes "inputs") []) (codes "inputs" ∷ inputs)
  pub outputs_good : KeepsAll (names_rules (codes "outputs") inputs) (codes "outputs" ∷ outputs)

pub record IsFormulaRead (names : List (List ℕ)) (lines : List Line) (f : Formula) (rest : List Line) : Type 0 where
  pub given : List ℕ
  pub lines_are : lines ≡ (codes "formula" ∷ words_of given) ∷ rest
  pub is_parsed : IsParsedAs Ltl given f
  pub is_known : IsTrue (knows names f)

abbrev pub TellsFault : List ℕ → DocRefusal → Type 0
TellsFault text (refused.Fault fault) = IsTaskFault text fault
TellsFault text refused.NoMemory = ⊤

abbrev pub TellsFaultBehind : List (List ℕ) → List Line → DocRefusal → Type 0
TellsFaultBehind names lines e =
    (text : List ℕ) (inputs outputs : List (List ℕ))
    → AreSignalsRead text inputs outputs lines
    → names ≡ inputs ++ outputs
    → TellsFault text e

abbrev pub at_line : ℕ → LineRefusal TaskRule → DocRefusal
at_line k (line.Breaks rule) = refused.Fault (record { line = k; rule = rule_number rule })
at_line k line.NoMemory = refused.NoMemory

abbrev pub formula_refusal : ParseRefusal → LineRefusal TaskRule
formula_refusal parser.NoMemory = line.NoMemory
formula_refusal _ = line.Breaks Parses
