-- What the reader of a document knows. Private contracts and proofs cite this.
--
--   HasRoom at          == the numbers of the lines of what is left fit 64 bits
--   TellsFault F e at   == where the refusal e is a fault, F tells it of what is left
--   Takes P at rest     == what is left at `at` is a text of which P is true, and behind it what is left at `rest`
--   IsNext at line rest == the next line has these bytes, and `rest` is behind it
--   IsTold xs S q words told == the words are those of a line of the question q, and tell this
--   IsAnswerOf wants words a == the words of an answer tell a
--   AreAnswerWords xs q words a == so it is behind the words of the question q
--   TellsRule rules words e == where the refusal e is a rule, it is the first of these that the words break
--   ArePartsOf n ms ps  == the parts ps are those of the items that ms names, the first item of which has the number n
--   ArePartsReadTo xs ms at n ps rest == what is known behind the parts ps of the first n marks
--   IsMadeOf told r     == the answer r is one of which the line before told this
--   IsReadTo xs at stated rest d == what is left at `at` are the answers that are stated, with their bodies, and behind them
--                          what is left at `rest`, where d is due
--   IsReadUpTo xs at stated rest qs == so it is where the questions qs are due
--   IsFaultBehind xs k text f == f tells a fault behind good answers
--   AreReadBehind xs at stated == the same, with the title before them
--   IsConflict b r      == b tells whether the answer r is a conflict
--   AreRead xs at stated == what is left are the answers that are stated, all that are due, with their bodies, and `end`
--   IsRefusedIn spec text e == where the refusal e is a fault, this is found where spec is the text of the specification, and
--                          this text the document behind it
use Rattle.std.specs.Prelude.{ℕ, ◌≡◌, ◌+◌, ◌≤◌, ◌^◌, ◌++◌, ⊤, Bool, true, false, not, List, [], ◌∷◌, codes, drop, length, map}
use Rattle.ml_base.specs.declared.doc_fault.DocFault.{DocFault}
use Rattle.ml_base.specs.declared.doc_refusal.DocRefusal.{DocRefusal}
use Rattle.ml_base.specs.declared.doc_refusal.DocRefusal.TheVariants as refusal
use Rattle.ml_lines.specs.Lines.{Line, line_text}
use Rattle.ml_lines.specs.Reading.{words_of, AreWords}
use Rattle.ml_lines.specs.declared.refusal.LineRefusal.{LineRefusal}
use Rattle.ml_lines.specs.declared.refusal.LineRefusal.TheVariants as line_refusal
use Rattle.ml_lists.specs.Documents.{Rule, IsFirstBroken}
use Rattle.ml_spec.specs.declared.question.Question.{Question}
use Rattle.ml_spec.specs.declared.specification.Item.{Item}
use Rattle.ml_replies.specs.Replies.{Part, Replied, Reply, LeftOpen, Met, Unmet}
use Rattle.ml_answers.specs.Checked.{finding_of, lines_from, AreAnswersAt, AreTexts, IsFoundIn}
use Rattle.ml_answers.specs.Documents.{last_line, AreBlocks, ArePartsText}
use Rattle.ml_answers.specs.Due.{begun, is_of_conflict, AreAll, Due, LeadTo}
use Rattle.ml_answers.specs.Lines.{is_met, question_words, wants_structure, yes_or_no}
use Rattle.ml_answers.specs.RuleNumbers.{rule_number}
use Rattle.ml_answers.specs.Rules.{ArePartsFault, IsBehind, IsDueFault}
use Rattle.ml_answers.specs.Texts.{line_count, next_line, one_text, IsLine}
use Rattle.ml_answers.specs.private.Marks.{is_named, MarkedBy}
use Rattle.ml_answers.specs.private.Words.{words_left}
use Rattle.ml_answers.specs.Stated.{lines_of, replies_of}
use Rattle.ml_answers.specs.declared.line.AnswerWords.{AnswerWords}
use Rattle.ml_answers.specs.declared.line.AnswerWords.TheVariants as answer
use Rattle.ml_answers.specs.declared.line.ToldLine.{ToldLine}
use Rattle.ml_answers.specs.declared.line.ToldLine.TheVariants as told
use Rattle.ml_answers.specs.declared.names.Mark.{Mark}
use Rattle.ml_answers.specs.declared.names.Mark.TheVariants.{Unnamed, Needed, Perhaps}
use Rattle.ml_answers.specs.declared.answered.AnswersRefusal.{AnswersRefusal}
use Rattle.ml_answers.specs.declared.answered.AnswersRefusal.TheVariants as answers_refusal
use Rattle.ml_answers.specs.declared.rest.Rest.{Rest}
use Rattle.ml_answers.specs.declared.rule.AnswersRule.{AnswersRule}
use Rattle.ml_answers.specs.declared.stated.Stated.{Stated}

-- ---- texts

abbrev pub HasRoom : Rest → Type 0
HasRoom at = at.line + length at.text.now ≤ 2 ^ 63

abbrev pub TellsFault : (ℕ → List ℕ → DocFault → Type 0) → Rest → DocRefusal → Type 0
TellsFault F at (refusal.Fault fault) = F at.line at.text.now fault
TellsFault F at refusal.NoMemory = ⊤

pub record Takes (P : List ℕ → Type 0) (at rest : Rest) : Type 0 where
  pub front : List ℕ
  pub are_both : at.text.now ≡ front ++ rest.text.now
  pub is_front : P front
  pub is_line : rest.line ≡ at.line + line_count front

pub record IsNext (at : Rest) (line : List ℕ) (rest : Rest) : Type 0 where
  pub has_words : next_line at.text.now ≡ words_of line
  pub takes : Takes (IsLine (words_of line)) at rest

-- ---- lines

abbrev pub IsTold : List Item → (ℕ → Bool) → Question → Line → ToldLine → Type 0
IsTold xs S q words told.Structure = words ≡ question_words xs q ++ yes_or_no (wants_structure xs q) ∷ []
IsTold xs S q words (told.Names ms) =
    (ws : Line)
    × (words ≡ question_words xs q ++ yes_or_no (not (wants_structure xs q)) ∷ codes "because" ∷ ws)
    × MarkedBy S (is_of_conflict q) xs ms.items ws
IsTold xs S q words told.LeftOpen = words ≡ question_words xs q ++ codes "open" ∷ []

abbrev pub IsAnswerOf : Bool → Line → AnswerWords → Type 0
IsAnswerOf wants words answer.Structure = words ≡ yes_or_no wants ∷ []
IsAnswerOf wants words (answer.Names names) = words ≡ yes_or_no (not wants) ∷ codes "because" ∷ words_left names
IsAnswerOf wants words answer.LeftOpen = words ≡ codes "open" ∷ []

abbrev pub IsBecause : Line → AnswerWords → Type 0
IsBecause words (answer.Names names) = words ≡ codes "because" ∷ words_left names
IsBecause words _ = ⊥

pub record AreAnswerWords (xs : List Item) (q : Question) (words : Line) (a : AnswerWords) : Type 0 where
  pub are_words : AreWords words
  pub answer : Line
  pub is_line : words ≡ question_words xs q ++ answer
  pub is_answer : IsAnswerOf (wants_structure xs q) answer a

abbrev pub TellsRule : List (Rule Line) → Line → LineRefusal AnswersRule → Type 0
TellsRule rules words (line_refusal.Breaks r) = IsFirstBroken rules words (rule_number r)
TellsRule rules words line_refusal.NoMemory = ⊤

-- ---- bodies

abbrev pub ArePartsOf : ℕ → List Mark → List Part → Type 0
ArePartsOf n [] ps = ps ≡ []
ArePartsOf n (Unnamed ∷ ms) ps = ArePartsOf (n + 1) ms ps
ArePartsOf n (Needed ∷ ms) [] = ⊥
ArePartsOf n (Needed ∷ ms) (p ∷ ps) = (p.requirement ≡ n) × (is_met p.without ≡ true) × ArePartsOf (n + 1) ms ps
ArePartsOf n (Perhaps ∷ ms) [] = ⊥
ArePartsOf n (Perhaps ∷ ms) (p ∷ ps) = (p.requirement ≡ n) × (is_met p.without ≡ false) × ArePartsOf (n + 1) ms ps

-- what is known behind the parts of the first n marks
pub record ArePartsReadTo (xs : List Item) (ms : List Mark) (at : Rest) (n : ℕ) (ps : List Part) (rest : Rest) : Type 0 where
  pub made : (more : List Part) → ArePartsOf n (drop n ms) more → ArePartsOf 0 ms (ps ++ more)
  pub takes : (more : List Part) (end : Rest)
      → Takes (ArePartsText xs more) rest end
      → Takes (ArePartsText xs (ps ++ more)) at end
  pub refused : (e : DocRefusal)
      → ((qs : List Part) → ArePartsOf n (drop n ms) qs → TellsFault (ArePartsFault xs qs) rest e)
      → (qs : List Part)
      → ArePartsOf 0 ms qs
      → TellsFault (ArePartsFault xs qs) at e
  pub has_room : HasRoom rest

-- the answer is one of which the line before told this
abbrev pub IsMadeOf : ToldLine → Reply → Type 0
IsMadeOf told.Structure (Met m s) = ⊤
IsMadeOf (told.Names ms) (Unmet c) = (c.taken ≡ map is_named ms.items) × ArePartsOf 0 ms.items c.parts
IsMadeOf told.LeftOpen LeftOpen = ⊤
IsMadeOf told r = ⊥

-- ---- documents

pub record IsReadTo (xs : List Item) (at : Rest) (stated : List Stated) (rest : Rest) (d : Due) : Type 0 where
  pub texts : List (List ℕ)
  pub are_texts : AreTexts xs (replies_of stated) texts
  pub are_both : at.text.now ≡ one_text texts ++ rest.text.now
  pub is_line : rest.line ≡ at.line + line_count (one_text texts)
  pub are_lines : lines_of stated ≡ lines_from at.line texts
  pub lead : LeadTo xs (begun xs) (replies_of stated) d

-- where only these questions are due
pub record IsReadUpTo (xs : List Item) (at : Rest) (stated : List Stated) (rest : Rest) (qs : List Question) : Type 0 where
  pub among : ℕ → Bool
  pub is_read : IsReadTo xs at stated rest (record { rest = among; questions = qs })

-- good answers may stand before the fault
pub record IsFaultBehind (xs : List Item) (k : ℕ) (text : List ℕ) (fault : DocFault) : Type 0 where
  pub replies : List Replied
  pub due : Due
  pub lead : LeadTo xs (begun xs) replies due
  pub is_fault : IsBehind (AreBlocks xs replies) (IsDueFault xs due) k text fault

-- all answers, and `end` behind them
pub record AreRead (xs : List Item) (at : Rest) (stated : List Stated) : Type 0 where
  pub texts : List (List ℕ)
  pub are_all : AreAll xs (replies_of stated)
  pub are_texts : AreTexts xs (replies_of stated) texts
  pub is_text : at.text.now ≡ one_text texts ++ line_text last_line
  pub are_lines : lines_of stated ≡ lines_from at.line texts

-- the same, with the title before them
abbrev pub AreReadBehind : List Item → Rest → List Stated → Type 0
AreReadBehind xs at stated = AreAnswersAt xs at.line at.text.now (replies_of stated) (lines_of stated)

-- does the answer name a conflict?
abbrev pub IsConflict : Bool → Reply → Type 0
IsConflict b (Unmet c) = b ≡ true
IsConflict b r = b ≡ false

abbrev pub IsRefusedIn : List ℕ → List ℕ → AnswersRefusal → Type 0
IsRefusedIn spec text (answers_refusal.Fault fault) = IsFoundIn spec text (finding_of fault)
IsRefusedIn spec text answers_refusal.NoMemory = ⊤
