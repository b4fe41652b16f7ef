-- Laws of what is due.
--
--   HasFitNumbers c  == the limit of c, where it has one, fits 32 bits, and the number for which c measures a formula is one
--                       of its family's range, as with each command that words are
--   SomeDue          == for each such command, for words that are none, and for each input, some status is due, with
--                       some output
--   SomeDueForWords  == so it is of all lists of words
--   searches c       == c seeks its answer by a search
--   OneDue           == one status is due at most, for each command that doesn't search
--   OneUnlessOpen    == of two statuses that are due for a command, also for one that searches, they are the same, or one of
--                       them says that the problem stays open
--   FindsAsDecided, ProvesAsDecided == what `decide` (`valid`) answers, `find` (`prove`) may answer; and what these answer is
--                       yes, or no, or is due for `decide` (`valid`), with the same output
--   MakesAsRealized  == what `realize` answers, `make` may answer; and what this answers is yes, or no, or is due for
--                       `realize`, with the same output
--   OneMeasure       == one output is due at most for `gen` and `bench`
--   SameWinners      == all engines of `solve-game` name the same winners
--   OneSolutionDue   == one status and one output are due at most for `solve-game measures`
--   OneCheckDue      == one status is due at most for `check-game`, with one output, but for the vertex that is named with the
--                       fourth rule
--   SolutionsAreAccepted == what is due for `solve-game`, by any engine, put behind the text of the game, is accepted by
--                       `check-game`
--   OneQuotientDue   == one status and one output are due at most for `quotient`
--   QuotientsAreRead == what is written for `quotient` is read as a document of the same problem, with the quotient
--   WrittenHoldsTheSame == where its logic speaks of the structure, the problem holds at the start that is written exactly
--                       where it holds at the start that was read
--   QuotientsAreCheckedAlike == what `check-model` answers of such a document, it answers of what is written
--   OneAutomatonDue  == one status and one output are due at most for `determinise`
--   OneAutomatonWritten == one automaton is written of a text at most, whatever the limit
--   WrittenAcceptsTheSame == it accepts the words of valuations that the text's automaton accepts
--   WrittenIsTranslated == what is written for `automaton` stands for an automaton that accepts exactly the words that satisfy
--                       the formula of the text
--   IsExact q p s    == the status s says of the problem p what is true of it
--   AnswersAreExact  == each answer to a question is exact
--   DecidedAreChecked, RefutedAreAccepted == the documents that answer a question are right, of whatever length
--   DecideIsChecked, ValidIsChecked, FindIsChecked, ProveIsChecked == where they are no longer than documents that are read,
--                       `check-model` answers `holds` of one with a structure, and `check-refutation` answers `accepted` of
--                       one with a refutation
--   IsLargeTask text == the text is one of a task, and the word automaton of its formula is too large to be checked with
--   RealizeIsChecked, MakeIsChecked == so `check-machine` answers `holds` of the document of a machine, and of that of an
--                       environment; but of this it says that it is too large, if that is so
--   AskIsChecked     == what is due for `ask files`, put behind its file of requirements, which ends with an LF, is answered
--                       `right` by `check-answers`, if both are no longer than it takes; or the first line that is open is told,
--                       and so it is where `ask` leaves the file undecided
--   RightIsAsked     == a text that `check-answers` answers `right` is a file of requirements, and behind it what is due for
--                       `ask files`, with whichever limit
--   PathsShowWhatHolds, PathsShowWhatFails == where neither `path` nor `check-model` leaves it open, `path` finds a path
--                       exactly where `check-model` answers `holds`, if the document has the sense of its path problem, and
--                       `fails`, if it has the other one
use Rattle.std.specs.Prelude.{ℕ, ◌≡◌, ◌≢◌, ◌<◌, ◌^◌, ◌⊎◌, ◌↔◌, Bool, true, false, List, [], ◌∷◌, ◌++◌, Option, Some, if◌then◌else◌}
use Rattle.ml_base.specs.Structure.{Structure}
use Rattle.ml_blocks.specs.Closures.{HasMoreThan}
use Rattle.ml_buchi.specs.Deterministic.{IsValuationWord}
use Rattle.ml_buchi.specs.Valuations.{Leads}
use Rattle.ml_ctl.specs.Formula.{Formula}
use Rattle.ml_ctl.specs.Parsing.{IsParsedAs}
use Rattle.ml_ctl.specs.declared.language.Language.TheVariants.{Ltl}
use Rattle.ml_determinise.specs.Numbering.{automaton_of}
use Rattle.ml_hoa.specs.Refusals.{IsReadAs}
use Rattle.ml_machine_check.specs.Checked as machines
use Rattle.ml_path_text.specs.Found.{Asks}
use Rattle.ml_task.specs.TaskText.{IsTaskText}
use Rattle.ml_word_automaton.specs.WordAutomaton.{start_block}
use Rattle.ml_gen.specs.FamilyRanges.{is_in_range}
use Rattle.ml_gen.specs.declared.family.Family.{Family}
use Rattle.ml_driver.specs.declared.command.Command.TheVariants.{Decide, Valid, Find, Prove, CheckModel, CheckRefutation, Quotient, SolveGame, CheckGame, Path, CheckMachine, CheckAnswers, Determinise, Automaton, Make, Ask, Realize, Gen, Bench}
use Rattle.ml_driver.specs.declared.command.Command.{Command}
use Rattle.ml_bisim.specs.Quotient.{class_of}
use Rattle.ml_model_check.specs.Checked.{IsCheckedAs, IsDocument}
use Rattle.ml_model_check.specs.declared.checked.Checked.TheVariants.{Holds}
use Rattle.ml_game_check.specs.declared.verdict.Rule.TheVariants.{NoBadCycle}
use Rattle.ml_pgsolver.specs.declared.finding.SolutionFinding.TheVariants.{Rejected}
use Rattle.ml_front.specs.Logics.{logic_of}
use Rattle.ml_front.specs.Problems.{HoldsAt, IsAdmitted, IsSatisfiable}
use Rattle.ml_front.specs.declared.logic.Logic.{Logic}
use Rattle.ml_front.specs.declared.problem.Problem.{Problem}
use Rattle.ml_refute_check.specs.Laws.{IsAcceptedDocument}
use Rattle.ml_parity.specs.Game.{size}
use Rattle.ml_parity.specs.Solution.{winner_at}
use Rattle.ml_trace.specs.WordAutomata.{IsAcceptedFrom, IsDetAcceptedFrom, IsWordLasso, WordLasso}
use Rattle.ml_translate.specs.Output.{TextAccepts}
use Rattle.ml_ask_text.specs.declared.told.Form.TheVariants.{Files}
use Rattle.ml_driver.specs.Automata.{IsWrittenFor}
use Rattle.ml_driver.specs.CheckedGames.{finding_said}
use Rattle.ml_driver.specs.Games.{IsSolved}
use Rattle.ml_driver.specs.declared.engine.Engine.{Engine}
use Rattle.ml_driver.specs.declared.engine.Engine.TheVariants.{Measures}
use Rattle.ml_decide.specs.Limits.{IsClosed, StaysOpen}
use Rattle.ml_decide.specs.declared.cause.Cause.{Cause}
use Rattle.ml_driver.specs.declared.status.Status.TheVariants.{Yes, No, Undecided, Text}
use Rattle.ml_driver.specs.Decision.{IsAnswered, IsProblem, Refuted, Satisfied}
use Rattle.ml_driver.specs.declared.question.Question.{Question}
use Rattle.ml_driver.specs.declared.status.Status.{Status}
use Rattle.ml_driver.specs.Quotients.{IsReduced}
use Rattle.ml_driver.specs.Run.{IsDue, IsWhole, IsWithin}
use Rattle.ml_driver.specs.Said.{said_text}
use Rattle.ml_driver.specs.declared.said.Said.TheVariants as said
use Rattle.ml_driver.specs.declared.said.Size.TheVariants.{Closure}
use Rattle.ml_driver.specs.Texts.{StandsFor}
use Rattle.ml_driver.specs.Words.{command_of}
use Rattle.ml_lines.specs.Lines.{Word}
use Rattle.ml_lines.specs.Reading.{left_of}

abbrev pub searches : Option Command → Bool
searches (Some (Find l n)) = true
searches (Some (Prove l n)) = true
searches (Some (Make n)) = true
searches (Some (Ask f n)) = true
searches _ = false

abbrev pub OneDue : Type 0
OneDue = (c : Option Command) (text : List ℕ) (s t : Status) (out more : List ℕ) → searches c ≡ false
    → IsDue c text s out → IsDue c text t more → s ≡ t

-- whether a search finds an answer is free where the whole game passes the limit; which answer isn't
abbrev pub AgreeUnlessOpen : Status → Status → Type 0
AgreeUnlessOpen s t = (s ≡ t) ⊎ ((s ≡ Undecided) ⊎ (t ≡ Undecided))

abbrev pub OneUnlessOpen : Type 0
OneUnlessOpen = (c : Option Command) (text : List ℕ) (s t : Status) (out more : List ℕ)
    → IsDue c text s out → IsDue c text t more → AgreeUnlessOpen s t

-- by a command that searches, and the one that explores the whole game
abbrev pub AnswersAs : (Logic → ℕ → Command) → (Logic → ℕ → Command) → Type 0
AnswersAs searching whole = (l : Logic) (n : ℕ) (text : List ℕ) (s : Status) (out : List ℕ)
    → (IsDue (Some (whole l n)) text s out → IsDue (Some (searching l n)) text s out)
    × (s ≢ Yes → s ≢ No → IsDue (Some (searching l n)) text s out → IsDue (Some (whole l n)) text s out)

abbrev pub FindsAsDecided : Type 0
FindsAsDecided = AnswersAs Find Decide

abbrev pub ProvesAsDecided : Type 0
ProvesAsDecided = AnswersAs Prove Valid

abbrev pub MakesAsRealized : Type 0
MakesAsRealized = (n : ℕ) (text : List ℕ) (s : Status) (out : List ℕ)
    → (IsDue (Some (Realize n)) text s out → IsDue (Some (Make n)) text s out)
    × (s ≢ Yes → s ≢ No → IsDue (Some (Make n)) text s out → IsDue (Some (Realize n)) text s out)

-- for `gen`, `determinise`, `automaton`, `realize` and `make` a number may be any
abbrev pub HasFitNumbers : Option Command → Type 0
HasFitNumbers (Some (Decide l n)) = n < 2 ^ 32
HasFitNumbers (Some (Valid l n)) = n < 2 ^ 32
HasFitNumbers (Some (Find l n)) = n < 2 ^ 32
HasFitNumbers (Some (Prove l n)) = n < 2 ^ 32
HasFitNumbers (Some (Ask f n)) = n < 2 ^ 32
HasFitNumbers (Some (Bench f n)) = is_in_range f n ≡ true
HasFitNumbers _ = Unit {0}

abbrev pub SomeDue : Type 0
SomeDue = (c : Option Command) (text : List ℕ) → HasFitNumbers c → (s : Status) × ((out : List ℕ) × IsDue c text s out)

-- whatever the words are
abbrev pub SomeDueForWords : Type 0
SomeDueForWords = (words : List Word) (text : List ℕ)
    → (s : Status) × ((out : List ℕ) × IsDue (command_of words) text s out)

abbrev pub OneMeasure : Type 0
OneMeasure = (f : Family) (n : ℕ) (text more : List ℕ) (s t : Status) (out other : List ℕ)
    → (IsDue (Some (Gen f n)) text s out → IsDue (Some (Gen f n)) more t other → out ≡ other)
    × (IsDue (Some (Bench f n)) text s out → IsDue (Some (Bench f n)) more t other → out ≡ other)

-- a status that answers a question about the problem of a text says that the problem stays undecided, exactly where it
-- does; and else that it is satisfiable, or that it isn't, and so it is
pub data IsExact (q : Question) (p : Problem) (s : Status) : Type 0 where
  open_at : (c : Cause) → StaysOpen q.limit p c → s ≡ Undecided → IsExact q p s
  satisfiable_at : IsClosed q.way q.limit p → IsSatisfiable p → s ≡ (if q.negated then No else Yes) → IsExact q p s
  unsatisfiable_at : IsClosed q.way q.limit p
      → ¬ (IsSatisfiable p)
      → s ≡ (if q.negated then Yes else No)
      → IsExact q p s

abbrev pub AnswersAreExact : Type 0
AnswersAreExact = (q : Question) (text : List ℕ) (p : Problem) (s : Status) (out : List ℕ)
    → IsProblem q text p → IsAnswered q text s out → IsExact q p s

-- the document with a structure is one in which its problem holds, and the one with a refutation is accepted
abbrev pub DecidedAreChecked : Type 0
DecidedAreChecked = (q : Question) (text out : List ℕ) → Satisfied q text out → IsCheckedAs out Holds

abbrev pub RefutedAreAccepted : Type 0
RefutedAreAccepted = (q : Question) (text out : List ℕ) → Refuted q text out → IsAcceptedDocument out

-- what the two commands that check answer of a document that is right
abbrev pub IsFoundToHold : List ℕ → Type 0
IsFoundToHold out = IsDue (Some CheckModel) out Yes (said_text said.Holds)

abbrev pub IsFoundAccepted : List ℕ → Type 0
IsFoundAccepted out = IsDue (Some CheckRefutation) out Yes (said_text said.Accepted)

-- of a command that writes a structure with the one status, and a refutation with the other
abbrev pub IsCheckedBy : (Logic → ℕ → Command) → Status → Status → Type 0
IsCheckedBy command held excluded = (l : Logic) (n : ℕ) (text out : List ℕ) → IsWhole out
    → (IsDue (Some (command l n)) text held out → IsFoundToHold out)
    × (IsDue (Some (command l n)) text excluded out → IsFoundAccepted out)

abbrev pub DecideIsChecked : Type 0
DecideIsChecked = IsCheckedBy Decide Yes No

abbrev pub ValidIsChecked : Type 0
ValidIsChecked = IsCheckedBy Valid No Yes

abbrev pub FindIsChecked : Type 0
FindIsChecked = IsCheckedBy Find Yes No

abbrev pub ProveIsChecked : Type 0
ProveIsChecked = IsCheckedBy Prove No Yes

-- what `check-machine` answers of the document of a machine or an environment that is right
abbrev pub IsFoundToWork : List ℕ → Type 0
IsFoundToWork out = IsDue (Some CheckMachine) out Yes (said_text said.Holds)

abbrev pub IsLeftUnchecked : List ℕ → Type 0
IsLeftUnchecked out = IsDue (Some CheckMachine) out Undecided (said_text (said.Undecided Closure machines.most_nodes))

abbrev pub IsLargeTask : List ℕ → Type 0
IsLargeTask text = StandsFor IsTaskText text (λ t. HasMoreThan (start_block t.formula false) machines.most_nodes)

-- of a command that writes a machine with yes, and an environment with no, where its limit fits 32 bits
abbrev pub IsCheckedToWork : (ℕ → Command) → Type 0
IsCheckedToWork command = (n : ℕ) (text out : List ℕ) → n < 2 ^ 32 → IsWhole out
    → (IsDue (Some (command n)) text Yes out → IsFoundToWork out)
    × (IsDue (Some (command n)) text No out → ¬ (IsLargeTask text) → IsFoundToWork out)
    × (IsDue (Some (command n)) text No out → IsLargeTask text → IsLeftUnchecked out)

abbrev pub RealizeIsChecked : Type 0
RealizeIsChecked = IsCheckedToWork Realize

abbrev pub MakeIsChecked : Type 0
MakeIsChecked = IsCheckedToWork Make

-- what `check-answers` answers of answers of which no line is wrong
abbrev pub AreFoundRight : List ℕ → Type 0
AreFoundRight text = IsDue (Some CheckAnswers) text Yes (said_text said.Right)

abbrev pub AreFoundOpen : List ℕ → Type 0
AreFoundOpen text = (line : ℕ) × IsDue (Some CheckAnswers) text Undecided (said_text (said.OpenLine line))

abbrev pub AskIsChecked : Type 0
AskIsChecked = (n : ℕ) (text : List ℕ) (s : Status) (out : List ℕ)
    → left_of text ≡ []
    → IsWithin CheckAnswers (text ++ out)
    → s ≢ Text
    → IsDue (Some (Ask Files n)) text s out
    → ((s ≢ Undecided) × AreFoundRight (text ++ out)) ⊎ AreFoundOpen (text ++ out)

-- a file of requirements, and behind it what is due for `ask files`, with whichever limit
abbrev pub IsFileWithAnswers : List ℕ → Type 0
IsFileWithAnswers text = (file : List ℕ) × (answers : List ℕ) × (text ≡ file ++ answers)
    × ((n : ℕ) → (s : Status) × IsDue (Some (Ask Files n)) file s answers)

abbrev pub RightIsAsked : Type 0
RightIsAsked = (text out : List ℕ) → IsDue (Some CheckAnswers) text Yes out → IsFileWithAnswers text

-- where the sense of the document and that of its path problem are so, a path is found exactly where the check has this status
abbrev pub IsFoundBeside : (Bool → Bool → Type 0) → Status → Type 0
IsFoundBeside AreSo found =
    (text : List ℕ) (p : Problem) (m : Structure) (start : ℕ) (f : Formula) (negated : Bool)
    (s t : Status) (out line : List ℕ)
    → Asks text p m start f negated
    → AreSo p.negated negated
    → IsDue (Some Path) text s out
    → IsDue (Some CheckModel) text t line
    → s ≢ Undecided
    → t ≢ Undecided
    → (s ≡ Yes) ↔ (t ≡ found)

abbrev pub PathsShowWhatHolds : Type 0
PathsShowWhatHolds = IsFoundBeside (λ sense asked. sense ≡ asked) Yes

abbrev pub PathsShowWhatFails : Type 0
PathsShowWhatFails = IsFoundBeside (λ sense asked. sense ≢ asked) No

-- whichever engines solve the game of a text, it is one game with the same winners
abbrev pub SameWinners : Type 0
SameWinners = (d e : Engine) (text out more : List ℕ) (x : IsSolved d text out) (y : IsSolved e text more)
    → (x.named ≡ y.named)
    × ((v : ℕ) → v < size x.named.game → winner_at x.solution.winner v ≡ winner_at y.solution.winner v)

-- the moves are those that progress first in the least measures
abbrev pub OneSolutionDue : Type 0
OneSolutionDue = (text : List ℕ) (s t : Status) (out more : List ℕ)
    → IsDue (Some (SolveGame Measures)) text s out
    → IsDue (Some (SolveGame Measures)) text t more
    → (s ≡ t) × (out ≡ more)

-- it says of some vertex that its entry breaks the fourth rule
abbrev pub NamesFour : List ℕ → Type 0
NamesFour out = (id : ℕ) × (out ≡ said_text (finding_said (Rejected id NoBadCycle)))

abbrev pub OneCheckDue : Type 0
OneCheckDue = (text : List ℕ) (s t : Status) (out more : List ℕ)
    → IsDue (Some CheckGame) text s out
    → IsDue (Some CheckGame) text t more
    → (s ≡ t) × ((out ≡ more) ⊎ (NamesFour out × NamesFour more))

abbrev pub IsFoundRight : List ℕ → Type 0
IsFoundRight text = IsDue (Some CheckGame) text Yes (said_text said.Accepted)

abbrev pub SolutionsAreAccepted : Type 0
SolutionsAreAccepted = (e : Engine) (text out : List ℕ) → IsDue (Some (SolveGame e)) text Yes out → IsFoundRight (text ++ out)

abbrev pub OneQuotientDue : Type 0
OneQuotientDue = (text : List ℕ) (s t : Status) (out more : List ℕ)
    → IsDue (Some Quotient) text s out
    → IsDue (Some Quotient) text t more
    → (s ≡ t) × (out ≡ more)

abbrev pub QuotientsAreRead : Type 0
QuotientsAreRead = (text out : List ℕ) (x : IsReduced text out)
    → IsDocument out x.problem x.quotient (class_of x.class x.start)

abbrev pub WrittenHoldsTheSame : Type 0
WrittenHoldsTheSame = (text out : List ℕ) (x : IsReduced text out)
    → IsAdmitted (logic_of x.problem.formula) x.structure
    → IsAdmitted (logic_of x.problem.formula) x.quotient
    × (HoldsAt x.structure x.start x.problem ↔ HoldsAt x.quotient (class_of x.class x.start) x.problem)

-- where the logic of the problem speaks of the structure that was read
abbrev pub QuotientsAreCheckedAlike : Type 0
QuotientsAreCheckedAlike = (text out : List ℕ) (x : IsReduced text out)
    → IsAdmitted (logic_of x.problem.formula) x.structure
    → IsWhole text
    → IsWhole out
    → (s : Status) (line : List ℕ) → IsDue (Some CheckModel) text s line → IsDue (Some CheckModel) out s line

abbrev pub OneAutomatonDue : Type 0
OneAutomatonDue = (n : ℕ) (text : List ℕ) (s t : Status) (out more : List ℕ)
    → IsDue (Some (Determinise n)) text s out
    → IsDue (Some (Determinise n)) text t more
    → (s ≡ t) × (out ≡ more)

abbrev pub OneAutomatonWritten : Type 0
OneAutomatonWritten = (n m : ℕ) (text out more : List ℕ)
    → IsDue (Some (Determinise n)) text Yes out
    → IsDue (Some (Determinise m)) text Yes more
    → out ≡ more

-- from its state 0, with the moves that are written
abbrev pub WrittenAcceptsTheSame : Type 0
WrittenAcceptsTheSame = (n : ℕ) (text out : List ℕ) (x : StandsFor IsReadAs text (λ a. IsWrittenFor a n out)) (w : WordLasso ℕ)
    → IsWordLasso w
    → IsValuationWord x.meant w
    → IsAcceptedFrom (Leads x.meant) x.meant.start w
    ↔ IsDetAcceptedFrom (automaton_of x.is_so.deterministic.moves) 0 w

abbrev pub WrittenIsTranslated : Type 0
WrittenIsTranslated = (n : ℕ) (text out : List ℕ)
    → IsDue (Some (Automaton n)) text Yes out
    → StandsFor (IsParsedAs Ltl) text (λ f. TextAccepts f out)
