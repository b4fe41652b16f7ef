-- What is true of documents of answers, and of checking them.
--
--   SomeFinding, OneFinding == of each text something is found, and one thing at most
--   RightIsTrue      == where `Right` is found, the text is a specification with a document of answers to its questions behind
--                       it, whichever the limit: so each line says what is so, nothing is open, and each requirement behind
--                       `because` is needed
--   IsSettled r      == nothing of the answer r is left open
--   IsOf text l xs rs == the text is this specification, whose last line has its LF and which isn't too long, and behind it a
--                       document of these answers
--   AnswersAreRight  == of such a text, whose answers are those to the questions, with whichever limit, `Right` is found where
--                       all of them are settled, and else `OpenAt` the line of one
--   FaultOrRead      == a text in which a document of answers begins is read as a specification with one behind it, or why it
--                       isn't is found
--   ReadNoFault      == never both
--   OneReadFault     == and one such fault at most
--   RulesRise        == the numbers of the rules of a line rise: so the first one that it breaks is the lowest
use Rattle.std.specs.Prelude.{ℕ, ◌≡◌, ◌⊎◌, ◌≤◌, ⊤, Bool, true, List, [], ◌++◌, length}
use Rattle.std.specs.List.{AllByRecursion}
use Rattle.ml_front.specs.declared.logic.Logic.{Logic}
use Rattle.ml_lines.specs.Reading.{left_of}
use Rattle.ml_lists.specs.Readings.{numbers}
use Rattle.ml_lists.specs.Ascending.{IsAscending}
use Rattle.ml_spec.specs.Specification.{IsSpecification}
use Rattle.ml_spec.specs.declared.question.Question.{Question}
use Rattle.ml_spec.specs.declared.specification.Item.{Item}
use Rattle.ml_replies.specs.Replies.{AreReplies, Replied, Reply, LeftOpen, Met, StillMet, StillOpen, Unmet, Without}
use Rattle.ml_answers.specs.Checked.{finding_of, has_answers, longest_specification, IsFound, IsReadAs}
use Rattle.ml_answers.specs.Documents.{IsDocumentOf}
use Rattle.ml_answers.specs.Rules.{answer_rules}
use Rattle.ml_answers.specs.declared.finding.AnswersFault.{AnswersFault}
use Rattle.ml_answers.specs.declared.finding.AnswersFinding.{AnswersFinding}
use Rattle.ml_answers.specs.declared.finding.AnswersFinding.TheVariants.{OpenAt, Right}

abbrev pub SomeFinding : Type 0
SomeFinding = (text : List ℕ) → (x : AnswersFinding) × IsFound text x

abbrev pub OneFinding : Type 0
OneFinding = (text : List ℕ) (x y : AnswersFinding) → IsFound text x → IsFound text y → x ≡ y

-- the text is this specification, and behind it a document of these answers
pub record IsOf (text : List ℕ) (l : Logic) (xs : List Item) (rs : List Replied) : Type 0 where
  pub spec : List ℕ
  pub document : List ℕ
  pub are_both : text ≡ spec ++ document
  pub is_short : length spec ≤ longest_specification
  pub is_whole : left_of spec ≡ []
  pub is_specification : IsSpecification spec l xs
  pub is_document : IsDocumentOf xs rs document

abbrev pub RightIsTrue : Type 0
RightIsTrue = (text : List ℕ)
    → IsFound text Right
    → (l : Logic) × (xs : List Item) × (rs : List Replied) × IsOf text l xs rs × ((n : ℕ) → AreReplies l xs n rs)

abbrev pub IsSettledWithout : Without → Type 0
IsSettledWithout (StillMet m s) = ⊤
IsSettledWithout StillOpen = ⊥

abbrev pub IsSettledReply : Reply → Type 0
IsSettledReply (Met m s) = ⊤
IsSettledReply (Unmet c) = AllByRecursion (λ p. IsSettledWithout p.without) c.parts
IsSettledReply LeftOpen = ⊥

abbrev pub AreSettled : List Replied → Type 0
AreSettled rs = AllByRecursion (λ r. IsSettledReply r.reply) rs

abbrev pub AnswersAreRight : Type 0
AnswersAreRight = (text : List ℕ) (l : Logic) (xs : List Item) (rs : List Replied) (n : ℕ)
    → IsOf text l xs rs
    → AreReplies l xs n rs
    → (AreSettled rs × IsFound text Right) ⊎ ((¬ (AreSettled rs)) × ((line : ℕ) × IsFound text (OpenAt line)))

abbrev pub FaultOrRead : Type 0
FaultOrRead = (text : List ℕ)
    → has_answers text ≡ true
    → ((l : Logic) × (xs : List Item) × (rs : List Replied) × (ks : List ℕ) × IsReadAs text l xs rs ks)
    ⊎ ((f : AnswersFault) × IsFound text (finding_of f))

abbrev pub ReadNoFault : Type 0
ReadNoFault = (text : List ℕ) (l : Logic) (xs : List Item) (rs : List Replied) (ks : List ℕ) (f : AnswersFault)
    → IsReadAs text l xs rs ks
    → ¬ (IsFound text (finding_of f))

abbrev pub OneReadFault : Type 0
OneReadFault = (text : List ℕ) (f g : AnswersFault) → IsFound text (finding_of f) → IsFound text (finding_of g) → f ≡ g

abbrev pub RulesRise : Type 0
RulesRise = (xs : List Item) (S : ℕ → Bool) (q : Question) → IsAscending (numbers (answer_rules xs S q))
