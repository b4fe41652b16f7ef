-- What an answer of one line says.
--
-- A document, a solution, an automaton or a formula is written as it is. Each other answer begins with one line, which comes
-- with its status; and mostly it is this line alone.
--
--   status_said x      == the status that comes with what x says
--   line_said x        == the words of its line
--   said_text x        == the line
--   said_alone x       == both, where nothing stands behind the line
--   IsSaid x s out     == the status s and the output out say x, and nothing else
--   is_text c s        == the command c answers the status s with a text: the commands that check do so never, `path`,
--                         `determinise` and `automaton` with yes, and the others unless they refuse the input
--   IsSaidBy x s out   == s and out say x, which is something
--   IsTold text s out x == the output out, which comes with the status s, begins with the line of x; there is no x only where
--                         `text` says that it is a text
use Rattle.std.specs.Prelude.{ℕ, ◌≡◌, ◌++◌, Bool, true, false, List, [], ◌∷◌, Option, Some, None, codes}
use Rattle.ml_game_check.specs.Verdicts.{number_of}
use Rattle.ml_lines.specs.Lines.{Line, Word, line_text, number}
use Rattle.ml_spec.specs.RuleNumbers.{rule_number}
use Rattle.ml_driver.specs.declared.command.Command.{Command}
use Rattle.ml_driver.specs.declared.command.Command.TheVariants as command
use Rattle.ml_driver.specs.declared.said.Said.{Said}
use Rattle.ml_driver.specs.declared.said.Said.TheVariants.{Accepted, Fails, Holds, NoAnswers, NoCommand, NoPath, NotAWord, NotTotal, OpenLine, RefusedDocument, RefusedRequirements, RefusedText, RejectedLine, RejectedVertex, Right, TooLong, Undecided, WrongLine}
use Rattle.ml_driver.specs.declared.said.Size.{Size}
use Rattle.ml_driver.specs.declared.said.Size.TheVariants.{Closure, Positions, States}
use Rattle.ml_driver.specs.declared.said.TextKind.{TextKind}
use Rattle.ml_driver.specs.declared.said.TextKind.TheVariants.{Automaton, Formula, Game}
use Rattle.ml_driver.specs.declared.status.Status.{Status}
use Rattle.ml_driver.specs.declared.status.Status.TheVariants as status

abbrev pub status_said : Said → Status
status_said NoCommand = status.Words
status_said TooLong = status.Text
status_said (RefusedText kind rule at) = status.Text
status_said (RefusedDocument fault) = status.Text
status_said (RefusedRequirements line column rule) = status.Text
status_said (NoAnswers line column) = status.Text
status_said (NotTotal state) = status.Text
status_said (NotAWord state) = status.Text
status_said Holds = status.Yes
status_said Fails = status.No
status_said Accepted = status.Yes
status_said (RejectedLine line rule) = status.No
status_said (RejectedVertex id rule) = status.No
status_said Right = status.Yes
status_said (WrongLine line) = status.No
status_said (OpenLine line) = status.Undecided
status_said NoPath = status.No
status_said (Undecided size limit) = status.Undecided

abbrev pub kind_word : TextKind → Word
kind_word Formula = codes "text"
kind_word Game = codes "game"
kind_word Automaton = codes "automaton"

abbrev pub size_word : Size → Word
size_word Closure = codes "closure"
size_word Positions = codes "positions"
size_word States = codes "states"

abbrev pub line_said : Said → Line
line_said NoCommand = codes "refused" ∷ codes "words" ∷ []
line_said TooLong = codes "refused" ∷ codes "length" ∷ []
line_said (RefusedText kind rule at) = codes "refused" ∷ kind_word kind ∷ codes "rule" ∷ number rule ∷ codes "at" ∷ number at ∷ []
line_said (RefusedDocument fault) =
    codes "refused" ∷ codes "document" ∷ codes "line" ∷ number fault.line ∷ codes "rule" ∷ number fault.rule ∷ []
line_said (RefusedRequirements line column rule) =
    codes "refused" ∷ codes "line" ∷ number line ∷ codes "column" ∷ number column ∷ codes "rule" ∷ number (rule_number rule) ∷ []
line_said (NoAnswers line column) =
    codes "refused" ∷ codes "line" ∷ number line ∷ codes "column" ∷ number column ∷ codes "rule" ∷ number 71 ∷ []
line_said (NotTotal state) = codes "not" ∷ codes "total" ∷ codes "at" ∷ codes "state" ∷ number state ∷ []
line_said (NotAWord state) = codes "not" ∷ codes "a" ∷ codes "word" ∷ codes "at" ∷ codes "state" ∷ number state ∷ []
line_said Holds = codes "holds" ∷ []
line_said Fails = codes "fails" ∷ []
line_said Accepted = codes "accepted" ∷ []
line_said (RejectedLine line rule) = codes "rejected" ∷ codes "line" ∷ number line ∷ codes "rule" ∷ number rule ∷ []
line_said (RejectedVertex id rule) =
    codes "rejected" ∷ codes "vertex" ∷ number id ∷ codes "rule" ∷ number (number_of rule) ∷ []
line_said Right = codes "right" ∷ []
line_said (WrongLine line) = codes "wrong" ∷ codes "line" ∷ number line ∷ []
line_said (OpenLine line) = codes "open" ∷ codes "line" ∷ number line ∷ []
line_said NoPath = codes "none" ∷ []
line_said (Undecided size limit) = codes "undecided" ∷ size_word size ∷ number limit ∷ []

abbrev pub said_text : Said → List ℕ
said_text x = line_text (line_said x)

abbrev pub said_alone : Said → Status × List ℕ
said_alone x = (status_said x, said_text x)

abbrev pub IsSaid : Said → Status → List ℕ → Type 0
IsSaid x s out = (s ≡ status_said x) × (out ≡ said_text x)

-- ---- lines and texts

abbrev pub never : Status → Bool
never s = false

abbrev pub is_yes : Status → Bool
is_yes status.Yes = true
is_yes s = false

abbrev pub is_answered : Status → Bool
is_answered status.Text = false
is_answered s = true

abbrev pub is_text : Command → Status → Bool
is_text command.CheckModel = never
is_text command.CheckRefutation = never
is_text command.CheckGame = never
is_text command.CheckMachine = never
is_text command.CheckAnswers = never
is_text command.Path = is_yes
is_text (command.Determinise n) = is_yes
is_text (command.Automaton n) = is_yes
is_text c = is_answered

abbrev pub IsSaidBy : Option Said → Status → List ℕ → Type 0
IsSaidBy None s out = ⊥
IsSaidBy (Some x) s out = IsSaid x s out

-- a text; a line; or a line with something behind it
pub data IsTold (text : Status → Bool) (s : Status) (out : List ℕ) (told : Option Said) : Type 0 where
  as_text : told ≡ None → text s ≡ true → IsTold text s out told
  as_line : IsSaidBy told s out → IsTold text s out told
  with_more : (line rest : List ℕ) → IsSaidBy told s line → out ≡ line ++ rest → IsTold text s out told
