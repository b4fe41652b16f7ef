-- What is told of a text.
--
-- A text that is no specification is refused, as `ml_spec` says. Of each other one the answers to its questions are told, in
-- one of two forms, as lines or as a document, and with a verdict: whether all is as whoever wrote it means it, consistent,
-- possible and following.
--
--   is_against xs r  == does the answer say no?
--   is_left_open r   == does it stay open?
--   verdict_of xs rs == `Against` where some answer says no; else `Open` where some one stays open; else `AsMeant`
--   IsWrittenAs f xs rs out == out is what is written of the answers rs in the form f: their lines, or a document of them
--   IsAnswered f text n v out == the text is a specification, and out tells the answers to its questions in the form f, where
--                       the limit is n, with their verdict v
--   IsToldOf f text n t == t is what is told of the text
use Rattle.std.specs.Prelude.{ℕ, ◌≡◌, Bool, true, false, not, if◌then◌else◌, List}
use Rattle.std.specs.List.{list_any}
use Rattle.ml_front.specs.declared.logic.Logic.{Logic}
use Rattle.ml_spec.specs.Faults.{IsRefused}
use Rattle.ml_spec.specs.Specification.{IsSpecification}
use Rattle.ml_spec.specs.declared.specification.Item.{Item}
use Rattle.ml_replies.specs.Replies.{AreReplies, Replied, Reply, LeftOpen, Met, Unmet}
use Rattle.ml_answers.specs.Documents.{IsDocumentOf}
use Rattle.ml_answers.specs.Lines.{lines_of, wants_structure}
use Rattle.ml_ask_text.specs.declared.told.Form.{Form}
use Rattle.ml_ask_text.specs.declared.told.Form.TheVariants.{Lines, Files}
use Rattle.ml_ask_text.specs.declared.told.Told.{Told}
use Rattle.ml_ask_text.specs.declared.told.Told.TheVariants.{Answered, Refused}
use Rattle.ml_ask_text.specs.declared.told.Verdict.{Verdict}
use Rattle.ml_ask_text.specs.declared.told.Verdict.TheVariants.{AsMeant, Against, Open}

-- ---- the verdict

abbrev pub says_no : Bool → Reply → Bool
says_no wants (Met m s) = not wants
says_no wants (Unmet c) = wants
says_no wants LeftOpen = false

abbrev pub is_against : List Item → Replied → Bool
is_against xs r = says_no (wants_structure xs r.question) r.reply

abbrev pub stays_open : Reply → Bool
stays_open (Met m s) = false
stays_open (Unmet c) = false
stays_open LeftOpen = true

abbrev pub is_left_open : Replied → Bool
is_left_open r = stays_open r.reply

abbrev pub verdict_of : List Item → List Replied → Verdict
verdict_of xs rs =
    if list_any (is_against xs) rs then Against else if list_any is_left_open rs then Open else AsMeant

-- ---- what is told

abbrev pub IsWrittenAs : Form → List Item → List Replied → List ℕ → Type 0
IsWrittenAs Lines xs rs out = out ≡ lines_of xs rs
IsWrittenAs Files xs rs out = IsDocumentOf xs rs out

pub record IsAnswered (f : Form) (text : List ℕ) (n : ℕ) (v : Verdict) (out : List ℕ) : Type 0 where
  pub logic : Logic
  pub items : List Item
  pub replies : List Replied
  pub is_specification : IsSpecification text logic items
  pub are_replies : AreReplies logic items n replies
  pub is_verdict : v ≡ verdict_of items replies
  pub is_written : IsWrittenAs f items replies out

abbrev pub IsToldOf : Form → List ℕ → ℕ → Told → Type 0
IsToldOf f text n (Answered v out) = IsAnswered f text n v out
IsToldOf f text n (Refused line column rule) = IsRefused text line column rule
