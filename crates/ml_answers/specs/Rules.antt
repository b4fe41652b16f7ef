-- Where a text is no document of answers.
--
-- A document is read from its first line on, of which it is known that it is the title. What stands at a line follows from the
-- lines before it: the line of the question that is due; behind it the body that its answer wants, which goes from there up to
-- and with the first line `end`, or to the text's end; and behind the last question `end`, and nothing more. The first bad line
-- is told, with the lowest rule that it breaks: 71 and 72 for the lines of answers, and the rules of bodies within them. A line
-- that is missing is the line of no words.
--
--   IsAnswerLine xs q line == the line has the words of the question q, and an answer behind them: `open`, `yes` or `no`, and
--                         behind `because` any words
--   HasNames xs S q line == the line is that of an answer that may stand there, where q is asked of the requirements in S: so
--                         its names are requirements in S, in their order, and each stands in it once
--   IsLineFault rs k text f == f tells that the text's first line, which has the number k, breaks the first of the rules rs in
--                              f
--   IsBehind P F k text f == P is true of the front of the text, and F tells f of what is behind it; lines are counted on
--   IsModelFault k text f, IsRefutationFault k text f == f tells a fault of a body with which the text begins
--   IsWithoutFault xs n k text f == f tells a fault of the line `without` with the name of the item n, or of the body behind it
--   ArePartsFault xs ps k text f == f tells a fault of what stands behind the refutation of a core with the parts ps
--   IsBodyFault xs r k text f == f tells a fault of what stands behind the line of the answer r
--   IsAnswerFault xs S q k text f == f tells a fault of the line of the question q, asked of the requirements in S, or of its
--                                    body
--   IsEndFault k text f  == f tells a fault of the last line, or of what is behind it
--   IsDueFault xs d k text f == f tells a fault of what stands where d is due
--   IsAnswersFault xs k text f == f tells the first bad line of the text, whose first line has the number k, and the lowest
--                         rule that it breaks
use Rattle.std.specs.Prelude.{ℕ, ◌≡◌, ◌≢◌, ◌+◌, ◌⊎◌, Bool, not, List, [], ◌∷◌, ◌++◌, codes}
use Rattle.ml_base.specs.declared.doc_fault.DocFault.{DocFault}
use Rattle.ml_base.specs.declared.version.Version.TheVariants.{Two}
use Rattle.ml_kripke.specs.BodyRules as model
use Rattle.ml_kripke.specs.Laws.{IsModelText}
use Rattle.ml_lines.specs.Lines.{Line}
use Rattle.ml_lines.specs.Reading.{AreWords}
use Rattle.ml_lists.specs.Documents.{Rule, rule, IsFirstBroken}
use Rattle.ml_refutation_text.specs.BodyRules as refutation
use Rattle.ml_refutation_text.specs.Laws.{IsRefutationText}
use Rattle.ml_spec.specs.declared.question.Question.{Question}
use Rattle.ml_spec.specs.declared.specification.Item.{Item}
use Rattle.ml_replies.specs.Replies.{Part, Replied, Reply, LeftOpen, Met, StillMet, StillOpen, Unmet, Without}
use Rattle.ml_answers.specs.Documents.{last_line, title_line, without_line, AreBlocks}
use Rattle.ml_answers.specs.Due.{asked_of, begun, Due, Fits, LeadTo}
use Rattle.ml_answers.specs.Lines.{line_of, question_words, wants_structure, yes_or_no}
use Rattle.ml_answers.specs.RuleNumbers.{rule_number}
use Rattle.ml_answers.specs.declared.rule.AnswersRule.TheVariants.{OfKind, Names}
use Rattle.ml_answers.specs.Texts.{line_count, next_line, up_to_end, IsLine}

-- ---- the rules

-- where `wants` tells whether a structure says yes
abbrev pub IsAnswer : Bool → Line → Type 0
IsAnswer wants line =
    (line ≡ yes_or_no wants ∷ [])
    ⊎ (line ≡ codes "open" ∷ [])
    ⊎ ((words : Line) × (line ≡ yes_or_no (not wants) ∷ codes "because" ∷ words))

pub record IsAnswerLine (xs : List Item) (q : Question) (line : Line) : Type 0 where
  pub are_words : AreWords line
  pub answer : Line
  pub is_line : line ≡ question_words xs q ++ answer
  pub is_answer : IsAnswer (wants_structure xs q) answer

abbrev pub replied : Question → Reply → Replied
replied q r = record { question = q; reply = r }

abbrev pub HasNames : List Item → (ℕ → Bool) → Question → Line → Type 0
HasNames xs S q line = (r : Reply) × Fits xs S q r × (line ≡ line_of xs (replied q r))

abbrev pub answer_rules : List Item → (ℕ → Bool) → Question → List (Rule Line)
answer_rules xs S q = rule (rule_number OfKind) (IsAnswerLine xs q) ∷ rule (rule_number Names) (HasNames xs S q) ∷ []

abbrev pub fixed_rules : Line → List (Rule Line)
fixed_rules words = rule (rule_number OfKind) (λ line. line ≡ words) ∷ []

-- ---- faults

abbrev pub IsLineFault : List (Rule Line) → ℕ → List ℕ → DocFault → Type 0
IsLineFault rules k text fault = (fault.line ≡ k) × IsFirstBroken rules (next_line text) fault.rule

pub record IsBehind (P : List ℕ → Type 0) (F : ℕ → List ℕ → DocFault → Type 0) (k : ℕ) (text : List ℕ) (fault : DocFault) : Type 0 where
  pub front : List ℕ
  pub rest : List ℕ
  pub are_both : text ≡ front ++ rest
  pub is_front : P front
  pub is_fault : F (k + line_count front) rest fault

abbrev pub IsModelFault : ℕ → List ℕ → DocFault → Type 0
IsModelFault k text fault = model.IsFaultOf (up_to_end text) k fault

abbrev pub IsRefutationFault : ℕ → List ℕ → DocFault → Type 0
IsRefutationFault k text fault = refutation.IsFaultOf Two (up_to_end text) k fault

abbrev pub IsWithoutFault : List Item → ℕ → ℕ → List ℕ → DocFault → Type 0
IsWithoutFault xs n k text fault =
    IsLineFault (fixed_rules (without_line xs n)) k text fault
    ⊎ IsBehind (IsLine (without_line xs n)) IsModelFault k text fault

-- of one part, or of what is behind it, as F tells it
abbrev pub IsPartFault :
    List Item → ℕ → Without → (ℕ → List ℕ → DocFault → Type 0) → ℕ → List ℕ → DocFault → Type 0
IsPartFault xs n StillOpen F k text fault = F k text fault
IsPartFault xs n (StillMet m s) F k text fault =
    IsWithoutFault xs n k text fault ⊎ IsBehind (IsLine (without_line xs n)) (IsBehind IsModelText F) k text fault

abbrev pub ArePartsFault : List Item → List Part → ℕ → List ℕ → DocFault → Type 0
ArePartsFault xs [] k text fault = ⊥
ArePartsFault xs (p ∷ ps) k text fault = IsPartFault xs p.requirement p.without (ArePartsFault xs ps) k text fault

abbrev pub IsBodyFault : List Item → Reply → ℕ → List ℕ → DocFault → Type 0
IsBodyFault xs (Met m s) k text fault = IsModelFault k text fault
IsBodyFault xs (Unmet c) k text fault =
    IsRefutationFault k text fault ⊎ IsBehind (IsRefutationText Two) (ArePartsFault xs c.parts) k text fault
IsBodyFault xs LeftOpen k text fault = ⊥

abbrev pub IsAnswerFault : List Item → (ℕ → Bool) → Question → ℕ → List ℕ → DocFault → Type 0
IsAnswerFault xs S q k text fault =
    IsLineFault (answer_rules xs S q) k text fault
    ⊎ ((r : Reply) × Fits xs S q r × IsBehind (IsLine (line_of xs (replied q r))) (IsBodyFault xs r) k text fault)

abbrev pub IsMore : ℕ → List ℕ → DocFault → Type 0
IsMore k text fault = (text ≢ []) × (fault.line ≡ k) × (fault.rule ≡ rule_number OfKind)

abbrev pub IsEndFault : ℕ → List ℕ → DocFault → Type 0
IsEndFault k text fault = IsLineFault (fixed_rules last_line) k text fault ⊎ IsBehind (IsLine last_line) IsMore k text fault

abbrev pub IsFirstDueFault : List Item → (ℕ → Bool) → List Question → ℕ → List ℕ → DocFault → Type 0
IsFirstDueFault xs R [] k text fault = IsEndFault k text fault
IsFirstDueFault xs R (q ∷ qs) k text fault = IsAnswerFault xs (asked_of R q) q k text fault

abbrev pub IsDueFault : List Item → Due → ℕ → List ℕ → DocFault → Type 0
IsDueFault xs d k text fault = IsFirstDueFault xs d.rest d.questions k text fault

-- behind the title good answers may stand
abbrev pub IsAnswersFault : List Item → ℕ → List ℕ → DocFault → Type 0
IsAnswersFault xs k text fault =
    (rs : List Replied) × (d : Due) × LeadTo xs (begun xs) rs d
    × IsBehind (IsLine title_line) (IsBehind (AreBlocks xs rs) (IsDueFault xs d)) k text fault
