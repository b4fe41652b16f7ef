-- What a call of `run` answers, and what it leaves behind.
--
-- Which status and output are due is said of the words and of the bytes that were read, and of nothing else: a status
-- never comes with an output of another one. An input that is longer than its command takes is refused by its length,
-- whatever the command. What is said of bytes read and written is said of a source and a sink that tell their bytes; of
-- others the clauses on faults remain.
--
--   asked b w l n             == what is asked in the logic l, of the negation where b says so, with the limit n, in the way w
--   IsChecked text s out      == s and out say what checking the document finds of its structure
--   IsJudged text s out       == s and out say what checking the document finds of its refutation; where this is accepted,
--                                the document's problem holds nowhere
--   IsAnswer c text s out     == this status and this output are the answer to the command c, if the input isn't too long
--   IsWithin c text           == the input is no longer than c takes, where it takes one
--   IsDue c text s out        == for the command c, or for words that are none, this status and this output are due where
--                                the input is the text; where none is taken, whatever the text is
--   World                     == what a call found and left: the bytes of the source, those of the sink, both counts of
--                                faults
--   IsCalm w                  == neither count of faults changed
--   input_limit c             == the limit on the length of the input, where one is taken; words that are no command take
--                                none
--   WasGiven n b a text       == the text was given, by what was left of the source before and after: to its end, or one byte
--                                past the limit n on its length; nothing was, where no input is taken
--   GaveUpTo n b a            == no more than this limit was given; nothing was, where no input is taken
--   IsWhole out               == out isn't longer than the documents that are read
--   Ended c w status          == what is true when the call has answered this status
use Rattle.std.specs.Prelude.{ℕ, ◌≡◌, ◌+◌, ◌≤◌, ◌⊎◌, Bool, true, false, List, [], length, Option, Some, None, IsSome, IfSome, option_and_then}
use Rattle.std.specs.Io.KnownBytes.{IsAtEnd, append_known, prepend_known}
use Rattle.ml_base.specs.Faults.{Rose}
use Rattle.ml_base.specs.Whole.{AppendsPart, Gives}
use Rattle.ml_ctl.specs.Parsing.{IsParsedAs}
use Rattle.ml_ctl.specs.declared.language.Language.TheVariants.{Ltl}
use Rattle.ml_front.specs.declared.logic.Logic.{Logic}
use Rattle.ml_model_check.specs.Checked.{IsCheckedAs}
use Rattle.ml_model_check.specs.declared.checked.Checked.{Checked}
use Rattle.ml_model_check.specs.declared.checked.Checked.TheVariants as checked
use Rattle.ml_refute_check.specs.Documents.{HoldsNowhere, IsMigrated, IsVerdict}
use Rattle.ml_refute_check.specs.declared.verdict.Verdict.{Verdict}
use Rattle.ml_refute_check.specs.declared.verdict.Verdict.TheVariants as verdict
use Rattle.ml_driver.specs.declared.command.Command.{Command}
use Rattle.ml_driver.specs.declared.command.Command.TheVariants.{Decide, Valid, Find, Prove, CheckModel, CheckRefutation, Migrate, Quotient, SolveGame, CheckGame, Path, Show, CheckMachine, CheckAnswers, Determinise, Automaton, Realize, Make, Ask, Gen, Bench}
use Rattle.ml_driver.specs.declared.command.TheConstants.{LONGEST_DOCUMENT}
use Rattle.ml_driver.specs.declared.question.Question.{Question}
use Rattle.ml_decide.specs.declared.way.Way.{Way}
use Rattle.ml_decide.specs.declared.way.Way.TheVariants.{WholeGame, Search}
use Rattle.ml_driver.specs.declared.status.Status.{Status}
use Rattle.ml_driver.specs.declared.status.Status.TheVariants.{Yes, Undecided, Text, ReadFault, WriteFault, NoMemory}
use Rattle.ml_driver.specs.Asked.{IsAsked}
use Rattle.ml_driver.specs.Automata.{IsRefusedAutomaton, IsWrittenFor, PassesLimit}
use Rattle.ml_driver.specs.Bench.{IsBenched, gen_text}
use Rattle.ml_driver.specs.CheckedAnswers.{AreAnswersTold}
use Rattle.ml_driver.specs.CheckedGames.{IsGameChecked}
use Rattle.ml_driver.specs.CheckedMachines.{IsMachineTold}
use Rattle.ml_driver.specs.Confirmed.{IsConfirmed}
use Rattle.ml_driver.specs.Decision.{IsAnswered}
use Rattle.ml_driver.specs.Games.{IsSolved, IsRefusedGame}
use Rattle.ml_driver.specs.Paths.{IsPathTold}
use Rattle.ml_driver.specs.Quotients.{IsReduced}
use Rattle.ml_driver.specs.Said.{IsSaid}
use Rattle.ml_driver.specs.ShownDocuments.{IsNotShown}
use Rattle.ml_driver.specs.Statuses.{IsUnreadable, longest_input, model_said, refutation_said}
use Rattle.ml_driver.specs.declared.said.Said.TheVariants.{NoCommand, TooLong}
use Rattle.ml_driver.specs.Tasks.{IsTaskAnswered}
use Rattle.ml_driver.specs.Texts.{StandsFor}
use Rattle.ml_driver.specs.Translations.{IsRefusedFormula, IsUntranslated}
use Rattle.ml_hoa.specs.Refusals.{IsReadAs as IsAutomatonText}
use Rattle.ml_show_text.specs.Shown.{IsShown}
use Rattle.ml_translate.specs.Output as translation

-- ---- what is answered

abbrev pub asked : Bool → Way → Logic → ℕ → Question
asked negated w l n = record { logic = l; negated = negated; limit = n; way = w }

pub record IsChecked (text : List ℕ) (s : Status) (out : List ℕ) : Type 0 where
  pub finding : Checked
  pub is_found : IsCheckedAs text finding
  pub is_said : IsSaid (model_said finding) s out

pub record IsJudged (text : List ℕ) (s : Status) (out : List ℕ) : Type 0 where
  pub finding : Verdict
  pub is_found : IsVerdict text finding
  pub is_true : finding ≡ verdict.Accepted → HoldsNowhere text
  pub is_said : IsSaid (refutation_said finding) s out

abbrev pub IsAnswer : Command → List ℕ → Status → List ℕ → Type 0
IsAnswer (Decide l n) text s out = IsAnswered (asked false WholeGame l n) text s out
IsAnswer (Valid l n) text s out = IsAnswered (asked true WholeGame l n) text s out
IsAnswer (Find l n) text s out = IsAnswered (asked false Search l n) text s out
IsAnswer (Prove l n) text s out = IsAnswered (asked true Search l n) text s out
IsAnswer CheckModel text s out = IsChecked text s out
IsAnswer CheckRefutation text s out = IsJudged text s out
IsAnswer Migrate text Yes out = IsMigrated text out
IsAnswer Migrate text Text out = IsUnreadable (λ fault. IsVerdict text (verdict.Unreadable fault)) out
IsAnswer Quotient text Yes out = IsReduced text out
IsAnswer Quotient text Text out = IsUnreadable (λ fault. IsCheckedAs text (checked.Unreadable fault)) out
IsAnswer (SolveGame e) text Yes out = IsSolved e text out
IsAnswer (SolveGame e) text Text out = IsRefusedGame text out
IsAnswer CheckGame text s out = IsGameChecked text s out
IsAnswer (Determinise n) text Yes out = StandsFor IsAutomatonText text (λ a. IsWrittenFor a n out)
IsAnswer (Determinise n) text Undecided out = StandsFor IsAutomatonText text (λ a. PassesLimit a n out)
IsAnswer (Determinise n) text Text out = IsRefusedAutomaton text out
IsAnswer (Automaton n) text Yes out = StandsFor (IsParsedAs Ltl) text (λ f. translation.IsWrittenFor f n out)
IsAnswer (Automaton n) text Undecided out = StandsFor (IsParsedAs Ltl) text (λ f. IsUntranslated f n out)
IsAnswer (Automaton n) text Text out = IsRefusedFormula text out
IsAnswer Path text s out = IsPathTold text s out
IsAnswer Show text Yes out = IsShown text out
IsAnswer Show text Text out = IsNotShown text out
IsAnswer CheckMachine text s out = IsMachineTold text s out
IsAnswer CheckAnswers text s out = AreAnswersTold text s out
IsAnswer (Make n) text s out = IsTaskAnswered Search n text s out
IsAnswer (Realize n) text s out = IsTaskAnswered WholeGame n text s out
IsAnswer (Ask f n) text s out = IsAsked f n text s out
IsAnswer (Gen f n) text Yes out = out ≡ gen_text f n
IsAnswer (Bench f n) text s out = IsBenched f n s out
IsAnswer _ _ _ _ = ⊥

abbrev pub IsWithin : Command → List ℕ → Type 0
IsWithin c text = IfSome (longest_input c) (λ n. length text ≤ n)

abbrev pub IsDue : Option Command → List ℕ → Status → List ℕ → Type 0
IsDue None text s out = IsSaid NoCommand s out
IsDue (Some c) text s out =
    (IsWithin c text × IsAnswer c text s out) ⊎ ((¬ (IsWithin c text)) × IsSaid TooLong s out)

-- ---- what is left behind

pub record World : Type 0 where
  pub left_before : Option (List ℕ)
  pub left_after : Option (List ℕ)
  pub source_faults_before : ℕ
  pub source_faults_after : ℕ
  pub taken_before : Option (List ℕ)
  pub taken_after : Option (List ℕ)
  pub sink_faults_before : ℕ
  pub sink_faults_after : ℕ

pub record IsCalm (w : World) : Type 0 where
  pub source_is_calm : w.source_faults_after ≡ w.source_faults_before
  pub sink_is_calm : w.sink_faults_after ≡ w.sink_faults_before

abbrev pub input_limit : Option Command → Option ℕ
input_limit c = option_and_then longest_input c

-- by the limit, and by what was left of the source before and after
abbrev pub WasGiven : Option ℕ → Option (List ℕ) → Option (List ℕ) → List ℕ → Type 0
WasGiven None before after text = (after ≡ before) × (text ≡ [])
WasGiven (Some n) before after text =
    (before ≡ prepend_known text after) × (((length text ≤ n) × IsAtEnd after) ⊎ (length text ≡ n + 1))

abbrev pub GaveUpTo : Option ℕ → Option (List ℕ) → Option (List ℕ) → Type 0
GaveUpTo None before after = after ≡ before
GaveUpTo (Some n) before after = Gives before after (λ given. length given ≤ n)

-- no output is longer than the documents that are read
abbrev pub IsWhole : List ℕ → Type 0
IsWhole out = length out ≤ LONGEST_DOCUMENT

-- the call answered: the whole of what is due was taken
pub record Answered (c : Option Command) (w : World) (status : Status) : Type 0 where
  pub text : List ℕ
  pub output : List ℕ
  pub was_read : WasGiven (input_limit c) w.left_before w.left_after text
  pub is_due : IsDue c text status output
  pub is_confirmed : IsConfirmed c status output
  pub is_whole : IsWhole output
  pub was_taken : w.taken_after ≡ append_known w.taken_before output
  pub is_calm : IsCalm w

-- the source failed: what it had given is gone, and nothing was written
pub record FailedToRead (c : Option Command) (w : World) : Type 0 where
  pub takes_input : IsSome (input_limit c)
  pub gave_at_most : GaveUpTo (input_limit c) w.left_before w.left_after
  pub source_rose : Rose w.source_faults_before w.source_faults_after
  pub sink_is_calm : w.sink_faults_after ≡ w.sink_faults_before
  pub nothing_taken : w.taken_after ≡ w.taken_before

-- the sink failed: a part of what is due was taken
pub record FailedToWrite (c : Option Command) (w : World) : Type 0 where
  pub text : List ℕ
  pub status : Status
  pub output : List ℕ
  pub was_read : WasGiven (input_limit c) w.left_before w.left_after text
  pub is_due : IsDue c text status output
  pub is_confirmed : IsConfirmed c status output
  pub is_whole : IsWhole output
  pub part_taken : AppendsPart w.taken_before w.taken_after output
  pub source_is_calm : w.source_faults_after ≡ w.source_faults_before
  pub sink_rose : Rose w.sink_faults_before w.sink_faults_after

-- memory was wanting: what the source had given is gone, and nothing was written
pub record LackedMemory (c : Option Command) (w : World) : Type 0 where
  pub gave_at_most : GaveUpTo (input_limit c) w.left_before w.left_after
  pub nothing_taken : w.taken_after ≡ w.taken_before
  pub is_calm : IsCalm w

abbrev pub Ended : Option Command → World → Status → Type 0
Ended c w ReadFault = FailedToRead c w
Ended c w WriteFault = FailedToWrite c w
Ended c w NoMemory = LackedMemory c w
Ended c w status = Answered c w status

-- a status and its output were due, and were written: the whole of it, or a part where the sink failed
abbrev pub Wrote : Option (List ℕ) → Option (List ℕ) → ℕ → ℕ → Status → List ℕ → Status → Type 0
Wrote taken_before taken_after faults_before faults_after due output answered =
    ((answered ≡ due) × (taken_after ≡ append_known taken_before output) × (faults_after ≡ faults_before))
    ⊎ ((answered ≡ WriteFault) × AppendsPart taken_before taken_after output × Rose faults_before faults_after)
