-- What is known of the lines of a head that were read. Private contracts and proofs cite this.
--
--   first_line text            == the first line of the text, or the line of no words
--   IsPair first line          == the line is this word and one more
--   Breaks a place line r      == r is the first rule that a line at this place breaks, where the answer a is wanted
--   IsFormulaRead l text f rest == the text begins with the line of a formula, which is parsed as f, of the logic l, and
--                                 then goes on
--   TellsHead a text e         == the refusal e tells the first bad line of the head, if it isn't for want of memory
--   TellsFormula a l text e    == the refusal e tells the rule that the line of the formula breaks, if it isn't
--   formula_refusal e          == the refusal of a line whose text the parser refuses with e
use Rattle.std.specs.Prelude.{ℕ, ◌≡◌, ⊤, List, [], ◌∷◌, codes, slice_index_or}
use Rattle.ml_base.specs.declared.doc_refusal.DocRefusal.{DocRefusal}
use Rattle.ml_base.specs.declared.doc_refusal.DocRefusal.TheVariants as head
use Rattle.ml_base.specs.declared.parse_refusal.ParseRefusal.{ParseRefusal}
use Rattle.ml_base.specs.declared.parse_refusal.ParseRefusal.TheVariants as parser
use Rattle.ml_lines.specs.Lines.{Word, Line}
use Rattle.ml_lines.specs.Reading.{lines_of, words_of, word}
use Rattle.ml_lines.specs.private.Fronts.{GoesOn}
use Rattle.ml_lists.specs.Documents.{IsFirstBroken}
use Rattle.ml_front.specs.Logics.{logic_of, IsParsedAs}
use Rattle.ml_front.specs.HeadRules.{HeadPlace, AtFormula, rules, IsHeadFault}
use Rattle.ml_front.specs.RuleNumbers.{rule_number}
use Rattle.ml_front.specs.declared.answer.Answer.{Answer}
use Rattle.ml_front.specs.declared.head_rule.HeadRule.{HeadRule}
use Rattle.ml_front.specs.declared.head_rule.HeadRule.TheVariants.{Parses}
use Rattle.ml_front.specs.declared.logic.Logic.{Logic}
use Rattle.ml_front.specs.declared.problem.AnyFormula.{AnyFormula}
use Rattle.ml_lines.specs.declared.refusal.LineRefusal.{LineRefusal}
use Rattle.ml_lines.specs.declared.refusal.LineRefusal.TheVariants as formula

abbrev pub first_line : List ℕ → Line
first_line text = slice_index_or (lines_of text) 0 []

abbrev pub IsPair : Word → Line → Type 0
IsPair first line = line ≡ first ∷ word line 1 ∷ []

abbrev pub Breaks : Answer → HeadPlace → Line → HeadRule → Type 0
Breaks a place line r = IsFirstBroken (rules a place) line (rule_number r)

pub record IsFormulaRead (l : Logic) (text : List ℕ) (f : AnyFormula) (rest : List ℕ) : Type 0 where
  pub given : List ℕ
  pub goes : GoesOn text ((codes "formula" ∷ words_of given) ∷ []) rest
  pub of_logic : logic_of f ≡ l
  pub is_parsed : IsParsedAs given f

abbrev pub TellsHead : Answer → List ℕ → DocRefusal → Type 0
TellsHead a text (head.Fault fault) = IsHeadFault a text fault
TellsHead a text head.NoMemory = ⊤

abbrev pub TellsFormula : Answer → Logic → List ℕ → LineRefusal HeadRule → Type 0
TellsFormula a l text (formula.Breaks rule) = Breaks a (AtFormula l) (first_line text) rule
TellsFormula a l text formula.NoMemory = ⊤

abbrev pub formula_refusal : ParseRefusal → LineRefusal HeadRule
formula_refusal parser.NoMemory = formula.NoMemory
formula_refusal _ = formula.Breaks Parses
