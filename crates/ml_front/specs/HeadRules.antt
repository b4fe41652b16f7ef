-- The head of a document as it is read, and as a format.
--
-- The lines 1 to 5 are a head for an answer where they are the lines of a written head, but that any text that is
-- parsed as the formula may stand in place of its canonical text. Where they are none, the first bad line tells why,
-- with the first rule that it breaks. A line that is missing is the line of no words. What stands behind the fifth line
-- has no rules here.
--
--   IsHead a text v p rest  == the text is a head in the version v that gives the answer a about the problem p, and then
--                              the rest
--   HeadPlace, after        == what stands at a line, and behind it
--   formula_bytes line      == what stands behind the first blank of a line
--   IsFormulaLine line      == the line is `formula`, a blank, and anything
--   IsFormulaOf l text      == the text stands for a formula of the logic l
--   rules a place           == the rules of a line at a place, with their numbers, where the answer a is wanted: 1, that the
--                              line is there and of the kind that stands there; 2, that the formula's text is parsed; 3,
--                              that the answer is the one that is wanted
--   head a                  == the places with their rules
--   IsHeadFault a text f    == f tells the first bad line of the head, and the lowest rule that it breaks
use Rattle.std.specs.Prelude.{ℕ, ◌≡◌, Bool, false, List, [], ◌∷◌, ◌++◌, drop, codes}
use Rattle.std.specs.List.{list_any, join_with_byte}
use Rattle.ml_base.specs.declared.doc_fault.DocFault.{DocFault}
use Rattle.ml_base.specs.declared.version.Version.{Version}
use Rattle.ml_lines.specs.Faults.{IsFault}
use Rattle.ml_lines.specs.Lines.{Word, Line, text_of}
use Rattle.ml_lines.specs.Reading.{is_line_end, word}
use Rattle.ml_lists.specs.Documents.{Format, Rule, rule}
use Rattle.ml_front.specs.Head.{title_line, answer_line, logic_line, sense_line, lines_about}
use Rattle.ml_front.specs.Logics.{logic_of, some_logic, IsParsedAs}
use Rattle.ml_front.specs.declared.answer.Answer.{Answer}
use Rattle.ml_front.specs.declared.logic.Logic.{Logic}
use Rattle.ml_front.specs.declared.problem.AnyFormula.{AnyFormula}
use Rattle.ml_front.specs.declared.problem.Problem.{Problem}

-- the formula's text stands in one line
pub record IsHead (a : Answer) (text : List ℕ) (v : Version) (p : Problem) (rest : List ℕ) : Type 0 where
  pub formula_text : List ℕ
  pub in_one_line : list_any is_line_end formula_text ≡ false
  pub is_text : text ≡ text_of (lines_about v a (logic_of p.formula) p.negated formula_text) ++ rest
  pub is_parsed : IsParsedAs formula_text p.formula

-- ---- the rules

-- behind the line of the logic a place knows the logic
pub data HeadPlace : Type 0 where
  AtTitle AtAnswer AtLogic : HeadPlace
  AtSense AtFormula : Logic → HeadPlace
  Behind : HeadPlace

abbrev pub after : HeadPlace → Line → HeadPlace
after AtTitle line = AtAnswer
after AtAnswer line = AtLogic
after AtLogic line = AtSense (some_logic (word line 1))
after (AtSense l) line = AtFormula l
after (AtFormula l) line = Behind
after Behind line = Behind

abbrev pub formula_bytes : Line → List ℕ
formula_bytes line = join_with_byte 32 (drop 1 line)

abbrev pub IsFormulaLine : Line → Type 0
IsFormulaLine line = (w : Word) × (ws : Line) × (line ≡ codes "formula" ∷ w ∷ ws)

-- the text stands for a formula of the logic
abbrev pub IsFormulaOf : Logic → List ℕ → Type 0
IsFormulaOf l text = (f : AnyFormula) × (logic_of f ≡ l) × IsParsedAs text f

abbrev pub rules : Answer → HeadPlace → List (Rule Line)
rules a AtTitle = rule 1 (λ line. (v : Version) × (line ≡ title_line v)) ∷ []
rules a AtAnswer = rule 1 (λ line. (b : Answer) × (line ≡ answer_line b)) ∷ rule 3 (λ line. line ≡ answer_line a) ∷ []
rules a AtLogic = rule 1 (λ line. (l : Logic) × (line ≡ logic_line l)) ∷ []
rules a (AtSense l) = rule 1 (λ line. (negated : Bool) × (line ≡ sense_line negated)) ∷ []
rules a (AtFormula l) = rule 1 IsFormulaLine ∷ rule 2 (λ line. IsFormulaOf l (formula_bytes line)) ∷ []
rules a Behind = []

abbrev pub head : Answer → Format Line HeadPlace
head a = record { rules = rules a; after = after; missing = [] }

abbrev pub IsHeadFault : Answer → List ℕ → DocFault → Type 0
IsHeadFault a text fault = IsFault (λ left. head a) 1 AtTitle text fault
