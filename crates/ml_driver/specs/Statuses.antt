-- The limits on inputs, and what is said of documents that are checked and of texts that are refused.
--
--   longest_input c  == the limit on the length of the input of a command, if it takes one
--   IsUnreadable F out == out is the line for a document whose first bad line F tells
--   model_said c     == what is said of a document with a structure of which checking finds c: that its problem holds where
--                       the document says so, or doesn't; that its closure is too large to tell; that its logic wants an
--                       edge from each state, or exactly one, and which state is the first that hasn't; or why the
--                       document can't be read
--   refutation_said v == what is said of a document with a refutation of which checking finds v: that it is accepted; that
--                       it isn't, with the first line that breaks a rule, and the lowest such rule; or why the document
--                       can't be read
--   refusal_said e   == what is said of the text of a formula that the parser refuses
--   refusal_line e   == its line
use Rattle.std.specs.Prelude.{ℕ, ◌≡◌, List, Option, Some, None, option_map}
use Rattle.ml_answers.specs.declared.finding.TheConstants.{LONGEST_ANSWERS}
use Rattle.ml_base.specs.declared.doc_fault.DocFault.{DocFault}
use Rattle.ml_base.specs.declared.parse_refusal.ParseRefusal.{ParseRefusal}
use Rattle.ml_base.specs.declared.parse_refusal.ParseRefusal.TheVariants as refusal
use Rattle.ml_front.specs.declared.problem.TheConstants.{MOST_NODES}
use Rattle.ml_hoa.specs.declared.limits.TheConstants.{LONGEST_AUTOMATON_TEXT}
use Rattle.ml_model_check.specs.declared.checked.Checked.{Checked}
use Rattle.ml_model_check.specs.declared.checked.Checked.TheVariants.{Holds, Fails, Unreadable, NotTotal, NotAWord, ClosureTooLarge}
use Rattle.ml_pgsolver.specs.declared.limits.TheConstants.{LONGEST_CHECKED_TEXT, LONGEST_GAME_TEXT}
use Rattle.ml_refute_check.specs.declared.verdict.Verdict.{Verdict}
use Rattle.ml_refute_check.specs.declared.verdict.Verdict.TheVariants as verdict
use Rattle.ml_show_text.specs.declared.limits.TheConstants.{LONGEST_SHOWN}
use Rattle.ml_task.specs.declared.limits.TheConstants.{LONGEST_TASK_TEXT}
use Rattle.ml_driver.specs.declared.command.Command.{Command}
use Rattle.ml_driver.specs.declared.command.Command.TheVariants.{CheckModel, CheckRefutation, Migrate, Quotient, SolveGame, CheckGame, Path, Show, CheckMachine, CheckAnswers, Determinise, Realize, Make, Gen, Bench}
use Rattle.ml_driver.specs.declared.command.TheConstants.{LONGEST_TEXT, LONGEST_DOCUMENT}
use Rattle.ml_driver.specs.declared.said.Said.{Said}
use Rattle.ml_driver.specs.declared.said.Said.TheVariants as said
use Rattle.ml_driver.specs.declared.said.Size.TheVariants.{Closure}
use Rattle.ml_driver.specs.declared.said.TextKind.TheVariants.{Formula}
use Rattle.ml_driver.specs.Said.{said_text}

abbrev pub longest_input : Command → Option ℕ
longest_input CheckModel = Some LONGEST_DOCUMENT
longest_input CheckRefutation = Some LONGEST_DOCUMENT
longest_input Migrate = Some LONGEST_DOCUMENT
longest_input Quotient = Some LONGEST_DOCUMENT
longest_input Path = Some LONGEST_DOCUMENT
longest_input Show = Some LONGEST_SHOWN
longest_input CheckMachine = Some LONGEST_DOCUMENT
longest_input CheckAnswers = Some LONGEST_ANSWERS
longest_input (SolveGame e) = Some LONGEST_GAME_TEXT
longest_input CheckGame = Some LONGEST_CHECKED_TEXT
longest_input (Determinise n) = Some LONGEST_AUTOMATON_TEXT
longest_input (Make n) = Some LONGEST_TASK_TEXT
longest_input (Realize n) = Some LONGEST_TASK_TEXT
longest_input (Gen f n) = None
longest_input (Bench f n) = None
longest_input _ = Some LONGEST_TEXT

-- ---- what is said

pub record IsUnreadable (IsFault : DocFault → Type 0) (out : List ℕ) : Type 0 where
  pub fault : DocFault
  pub is_fault : IsFault fault
  pub is_written : out ≡ said_text (said.RefusedDocument fault)

abbrev pub model_said : Checked → Said
model_said Holds = said.Holds
model_said Fails = said.Fails
model_said ClosureTooLarge = said.Undecided Closure MOST_NODES
model_said (NotTotal state) = said.NotTotal state
model_said (NotAWord state) = said.NotAWord state
model_said (Unreadable fault) = said.RefusedDocument fault

abbrev pub refutation_said : Verdict → Said
refutation_said verdict.Accepted = said.Accepted
refutation_said (verdict.Rejected line rule) = said.RejectedLine line rule
refutation_said (verdict.Unreadable fault) = said.RefusedDocument fault

-- want of memory is no refusal of the text
abbrev pub refusal_said : ParseRefusal → Option Said
refusal_said (refusal.Syntax at) = Some (said.RefusedText Formula 1 at)
refusal_said (refusal.Unbound at) = Some (said.RefusedText Formula 2 at)
refusal_said (refusal.NotPositive at) = Some (said.RefusedText Formula 3 at)
refusal_said (refusal.TooMany at) = Some (said.RefusedText Formula 4 at)
refusal_said (refusal.TooNested at) = Some (said.RefusedText Formula 5 at)
refusal_said (refusal.NameTooLong at) = Some (said.RefusedText Formula 6 at)
refusal_said refusal.NoMemory = None

abbrev pub refusal_line : ParseRefusal → Option (List ℕ)
refusal_line e = option_map said_text (refusal_said e)
