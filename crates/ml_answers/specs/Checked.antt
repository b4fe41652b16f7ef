-- What checking a specification finds, with a document of answers behind it.
--
-- The document begins with the first line that is its title; what stands before that is the specification. A text without such
-- a line is refused at its end, whatever else is wrong, and a specification that is too long, or refused, is told before the
-- document is looked at.
--
-- A line whose answer is a structure is shown where that meets the requirements of which the question is asked, and the
-- question. One that names requirements is shown where its refutation is accepted in the graph of their joined formula, and
-- each structure shows that the others can be met. Some can't be checked, as a formula is too long or its closure too large,
-- and `open` and `perhaps:` show nothing. A line is wrong where something of it that can be checked fails.
--
--   IsRefuted p r        == the formula of p is one that the program holds, its closure is small, and the refutation r is
--                           accepted in a graph of p
--   IsNotRefuted p r     == so it is, but r isn't accepted there
--   IsShownBy l xs S q r == the answer r to the question q, asked of the requirements in S, is shown
--   IsWrong l xs S q r   == it is wrong
--   Placed               == a question with its answer, the requirements of which it is asked, and the number of its line
--   placed R rs ks       == the answers rs with these, where their lines have the numbers ks, and R is the rest
--   AreTexts xs rs ts    == the texts ts are the lines of the answers rs with their bodies
--   lines_from k ts      == the numbers of the lines with which the texts ts begin, the first of which has the number k
--   IsFirst P ps line    == of the answers ps, the one in this line is the first of which P is true
--   IsVerdict l xs ps x  == x is what comes of these answers: that all are shown; or the first line that is wrong; or, where
--                           none is, the first one that isn't shown
--   AreAnswersAt xs k text rs ks == the text is a document of the answers rs to the questions of the items xs, its first line
--                           has the number k, and theirs have the numbers ks
--   IsCheckedAs l xs k text x == the text is a document of answers to the questions of the items xs of the logic l, its first
--                           line has the number k, and x comes of them
--   IsReadBehind spec text l xs rs ks == spec is the text of a specification, of the logic l and with the items xs, and this
--                           text the document of these answers behind it
--   IsReadAs text l xs rs ks == the text is such a specification, with such a document behind it
--   IsFoundIn spec text x == x is found where spec is the text of the specification, and this text the document behind it
--   IsFound text x       == x is what is found of the text
--   has_answers text     == does a document of answers begin in the text?
--   finding_of f         == what is found where f is why nothing is read
--   IsRefusedAs text e   == where the refusal e is a fault, this is found of the text
use Rattle.std.specs.Prelude.{ℕ, ◌≡◌, ◌<◌, ◌≤◌, ◌+◌, ◌⊎◌, ⊤, Bool, true, false, List, [], ◌∷◌, ◌++◌, Option, None, Some, codes, drop, length, take}
use Rattle.std.specs.List.{AllByRecursion}
use Rattle.ml_front.specs.Graphs.{OfGraph}
use Rattle.ml_front.specs.declared.logic.Logic.{Logic}
use Rattle.ml_front.specs.declared.problem.Problem.{Problem}
use Rattle.ml_lines.specs.Lines.{line_text}
use Rattle.ml_refutation.specs.Acceptance.{IsAccepted}
use Rattle.ml_refutation.specs.Refutation.{Refutation}
use Rattle.ml_spec.specs.Faults.{IsRefused}
use Rattle.ml_spec.specs.Places.{column_at, line_at}
use Rattle.ml_spec.specs.Questions.{is_in}
use Rattle.ml_spec.specs.Specification.{IsSpecification}
use Rattle.ml_spec.specs.declared.question.Question.{Question}
use Rattle.ml_spec.specs.declared.specification.Item.{Item}
use Rattle.ml_replies.specs.Meeting.{everything, problem_of, without, IsHeld, IsSmall}
use Rattle.ml_replies.specs.Replies.{Part, Replied, Reply, FailsByCheck, IsShown, LeftOpen, Met, StillMet, StillOpen, Unmet, Without}
use Rattle.ml_answers.specs.Documents.{last_line, title_line, IsBlock}
use Rattle.ml_answers.specs.Due.{asked_of, rest_behind, AreAll}
use Rattle.ml_answers.specs.Rules.{IsAnswersFault}
use Rattle.ml_answers.specs.Texts.{first_line, line_count, one_text}
use Rattle.ml_answers.specs.declared.finding.AnswersFault.{AnswersFault}
use Rattle.ml_answers.specs.declared.finding.AnswersFault.TheVariants as fault
use Rattle.ml_answers.specs.declared.finding.AnswersFinding.{AnswersFinding}
use Rattle.ml_answers.specs.declared.finding.AnswersFinding.TheVariants.{NoDocument, OpenAt, Refused, Right, TooLong, Unreadable, WrongAt}
use Rattle.ml_answers.specs.declared.finding.TheConstants.{LONGEST_SPECIFICATION}
use Rattle.ml_answers.specs.declared.answered.AnswersRefusal.{AnswersRefusal}
use Rattle.ml_answers.specs.declared.answered.AnswersRefusal.TheVariants as refusal

-- ---- one answer

pub record IsRefuted (p : Problem) (r : Refutation) : Type 0 where
  pub is_held : IsHeld p
  pub is_small : IsSmall p
  pub is_accepted : OfGraph p (λ g. IsAccepted g r)

pub record IsNotRefuted (p : Problem) (r : Refutation) : Type 0 where
  pub is_held : IsHeld p
  pub is_small : IsSmall p
  pub is_rejected : OfGraph p (λ g. ¬ (IsAccepted g r))

abbrev pub IsShownWithout : Logic → List Item → (ℕ → Bool) → Question → Without → Type 0
IsShownWithout l xs S q (StillMet m s) = IsShown l xs S q m s
IsShownWithout l xs S q StillOpen = ⊥

abbrev pub IsWrongWithout : Logic → List Item → (ℕ → Bool) → Question → Without → Type 0
IsWrongWithout l xs S q (StillMet m s) = FailsByCheck l xs S q m s
IsWrongWithout l xs S q StillOpen = ⊥

abbrev pub AreShown : Logic → List Item → (ℕ → Bool) → Question → List Part → Type 0
AreShown l xs S q [] = ⊤
AreShown l xs S q (p ∷ ps) = IsShownWithout l xs (without S p.requirement) q p.without × AreShown l xs S q ps

abbrev pub SomeWrong : Logic → List Item → (ℕ → Bool) → Question → List Part → Type 0
SomeWrong l xs S q [] = ⊥
SomeWrong l xs S q (p ∷ ps) = IsWrongWithout l xs (without S p.requirement) q p.without ⊎ SomeWrong l xs S q ps

abbrev pub IsShownBy : Logic → List Item → (ℕ → Bool) → Question → Reply → Type 0
IsShownBy l xs S q (Met m s) = IsShown l xs S q m s
IsShownBy l xs S q (Unmet c) =
    IsRefuted (problem_of l xs (is_in c.taken) q) c.refutation × AreShown l xs (is_in c.taken) q c.parts
IsShownBy l xs S q LeftOpen = ⊥

abbrev pub IsWrong : Logic → List Item → (ℕ → Bool) → Question → Reply → Type 0
IsWrong l xs S q (Met m s) = FailsByCheck l xs S q m s
IsWrong l xs S q (Unmet c) =
    IsNotRefuted (problem_of l xs (is_in c.taken) q) c.refutation ⊎ SomeWrong l xs (is_in c.taken) q c.parts
IsWrong l xs S q LeftOpen = ⊥

-- ---- all of them

pub record Placed : Type 0 where
  pub line : ℕ
  pub among : ℕ → Bool
  pub question : Question
  pub reply : Reply

abbrev pub placed : (ℕ → Bool) → List Replied → List ℕ → List Placed
placed R (r ∷ rs) (k ∷ ks) =
    record { line = k; among = asked_of R r.question; question = r.question; reply = r.reply }
    ∷ placed (rest_behind R r.question r.reply) rs ks
placed R _ _ = []

abbrev pub IsShownAt : Logic → List Item → Placed → Type 0
IsShownAt l xs p = IsShownBy l xs p.among p.question p.reply

abbrev pub IsWrongAt : Logic → List Item → Placed → Type 0
IsWrongAt l xs p = IsWrong l xs p.among p.question p.reply

-- of the answers ps, the one in this line is the first of which P is true
pub record IsFirst (P : Placed → Type 0) (ps : List Placed) (line : ℕ) : Type 0 where
  pub before : List Placed
  pub first : Placed
  pub after : List Placed
  pub are_all : ps ≡ before ++ first ∷ after
  pub none_before : AllByRecursion (λ p. ¬ (P p)) before
  pub is_so : P first
  pub is_line : line ≡ first.line

abbrev pub IsVerdict : Logic → List Item → List Placed → AnswersFinding → Type 0
IsVerdict l xs ps Right = AllByRecursion (IsShownAt l xs) ps
IsVerdict l xs ps (WrongAt line) = IsFirst (IsWrongAt l xs) ps line
IsVerdict l xs ps (OpenAt line) =
    AllByRecursion (λ p. ¬ (IsWrongAt l xs p)) ps × IsFirst (λ p. ¬ (IsShownAt l xs p)) ps line
IsVerdict l xs ps x = ⊥

-- ---- texts

abbrev pub AreTexts : List Item → List Replied → List (List ℕ) → Type 0
AreTexts xs [] [] = ⊤
AreTexts xs (r ∷ rs) (t ∷ ts) = IsBlock xs r t × AreTexts xs rs ts
AreTexts xs _ _ = ⊥

abbrev pub lines_from : ℕ → List (List ℕ) → List ℕ
lines_from k [] = []
lines_from k (t ∷ ts) = k ∷ lines_from (k + line_count t) ts

pub record AreAnswersAt (xs : List Item) (k : ℕ) (text : List ℕ) (rs : List Replied) (ks : List ℕ) : Type 0 where
  pub texts : List (List ℕ)
  pub are_all : AreAll xs rs
  pub are_texts : AreTexts xs rs texts
  pub is_text : text ≡ line_text title_line ++ (one_text texts ++ line_text last_line)
  pub are_lines : ks ≡ lines_from (k + 1) texts

pub record IsCheckedAs (l : Logic) (xs : List Item) (k : ℕ) (text : List ℕ) (x : AnswersFinding) : Type 0 where
  pub replies : List Replied
  pub lines : List ℕ
  pub are_answers : AreAnswersAt xs k text replies lines
  pub is_verdict : IsVerdict l xs (placed everything replies lines) x

abbrev pub longest_specification : ℕ
longest_specification = LONGEST_SPECIFICATION

pub record IsReadBehind (spec text : List ℕ) (l : Logic) (xs : List Item) (rs : List Replied) (ks : List ℕ) : Type 0 where
  pub is_short : length spec ≤ longest_specification
  pub is_specification : IsSpecification spec l xs
  pub are_answers : AreAnswersAt xs (1 + line_count spec) text rs ks

pub record IsReadAs (text : List ℕ) (l : Logic) (xs : List Item) (rs : List Replied) (ks : List ℕ) : Type 0 where
  pub at : ℕ
  pub begins : first_line (codes "mlsolver answers 1") text ≡ Some at
  pub is_read : IsReadBehind (take at text) (drop at text) l xs rs ks

-- what is found of the document, whose first line has the number k, of a specification of the logic l with the items xs
abbrev pub IsFoundOf : Logic → List Item → ℕ → List ℕ → AnswersFinding → Type 0
IsFoundOf l xs k text (Unreadable fault) = IsAnswersFault xs k text fault
IsFoundOf l xs k text x = IsCheckedAs l xs k text x

abbrev pub IsFoundBehind : List ℕ → List ℕ → AnswersFinding → Type 0
IsFoundBehind spec text (Refused line column rule) = IsRefused spec line column rule
IsFoundBehind spec text x =
    (l : Logic) × (xs : List Item) × IsSpecification spec l xs × IsFoundOf l xs (1 + line_count spec) text x

abbrev pub IsFoundIn : List ℕ → List ℕ → AnswersFinding → Type 0
IsFoundIn spec text TooLong = longest_specification < length spec
IsFoundIn spec text x = (length spec ≤ longest_specification) × IsFoundBehind spec text x

-- the document begins at this byte, if there is one
abbrev pub IsFoundFrom : Option ℕ → List ℕ → AnswersFinding → Type 0
IsFoundFrom None text (NoDocument line column) = (line ≡ line_at text (length text)) × (column ≡ column_at text (length text))
IsFoundFrom None text x = ⊥
IsFoundFrom (Some at) text x = IsFoundIn (take at text) (drop at text) x

abbrev pub IsFound : List ℕ → AnswersFinding → Type 0
IsFound text x = IsFoundFrom (first_line (codes "mlsolver answers 1") text) text x

-- ---- what isn't read

abbrev pub begins : Option ℕ → Bool
begins None = false
begins (Some at) = true

abbrev pub has_answers : List ℕ → Bool
has_answers text = begins (first_line (codes "mlsolver answers 1") text)

abbrev pub finding_of : AnswersFault → AnswersFinding
finding_of fault.TooLong = TooLong
finding_of (fault.NoDocument line column) = NoDocument line column
finding_of (fault.Refused line column rule) = Refused line column rule
finding_of (fault.Unreadable f) = Unreadable f

abbrev pub IsRefusedAs : List ℕ → AnswersRefusal → Type 0
IsRefusedAs text (refusal.Fault fault) = IsFound text (finding_of fault)
IsRefusedAs text refusal.NoMemory = ⊤
