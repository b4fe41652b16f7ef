-- Which texts are documents that are shown, and where another text is refused.
--
-- A text in which a document of answers begins is read as a specification with this document behind it; no other document has
-- a line that is its title. Each other text is read as one kind of document, which its first two lines tell. It is one where
-- the command that checks such documents can read it, and it is refused as that command refuses it. Whether what it says is true isn't asked, nor whether
-- the logic of its problem speaks of its structure. No command checks an undecided document, of a problem or of a task: its
-- head is read as the others are, and its body has rules of its own.
--
--   IsOfKind k text       == the text is a document of the kind k
--   IsFaultOfKind k text f == f tells the first bad line of the text, read as such a document, and the lowest rule that it
--                            breaks
--   read_as text          == what the text is read as
--   IsReadAs r text       == the text is what it is read as
--   IsFaultAs r text f    == f tells why it isn't: of answers what `check-answers` says, of other documents the first bad line
--                            and the lowest rule that it breaks
--   IsDocument text, IsFault text f == so it is of what the text is read as
--   IsShown text page     == the text is a document, and the page ends with LF
use Rattle.std.specs.Prelude.{ℕ, List, if◌then◌else◌}
use Rattle.ml_answers.specs.Checked as answers_shown
use Rattle.ml_answers.specs.Checked.{finding_of, has_answers, IsFound}
use Rattle.ml_base.specs.Structure.{Structure}
use Rattle.ml_base.specs.declared.doc_fault.DocFault.{DocFault}
use Rattle.ml_base.specs.declared.version.Version.{Version}
use Rattle.ml_front.specs.Documents.{IsDocumentFault, Shows}
use Rattle.ml_front.specs.declared.answer.Answer.TheVariants.{Satisfiable, Unsatisfiable, Undecided}
use Rattle.ml_front.specs.declared.logic.Logic.{Logic}
use Rattle.ml_front.specs.declared.problem.Problem.{Problem}
use Rattle.ml_kripke.specs.BodyRules as structures
use Rattle.ml_model_check.specs.Checked as structures_shown
use Rattle.ml_realize_text.specs.ReadText.{IsRealizeText}
use Rattle.ml_realize_text.specs.RealizeRules.{IsRealizeFault}
use Rattle.ml_refutation.specs.Refutation.{Refutation}
use Rattle.ml_refutation_text.specs.BodyRules as refutations
use Rattle.ml_refute_check.specs.Documents as refutations_shown
use Rattle.ml_replies.specs.Replies.{Replied}
use Rattle.ml_show.specs.Pages.{EndsWithLf}
use Rattle.ml_spec.specs.declared.specification.Item.{Item}
use Rattle.ml_synthesis.specs.declared.outcome.Outcome.{Outcome}
use Rattle.ml_task.specs.Task.{Task}
use Rattle.ml_show_text.specs.Kinds.{kind_of}
use Rattle.ml_show_text.specs.UndecidedBodies as causes
use Rattle.ml_show_text.specs.UndecidedTasks as tasks
use Rattle.ml_show_text.specs.declared.kind.Kind.{Kind}
use Rattle.ml_show_text.specs.declared.kind.Kind.TheVariants.{Realizability, UndecidedTask, Decision}
use Rattle.ml_show_text.specs.declared.input.ReadAs.{ReadAs}
use Rattle.ml_show_text.specs.declared.input.ReadAs.TheVariants.{Answers, Document}
use Rattle.ml_show_text.specs.declared.refusal.ShowFault.{ShowFault}
use Rattle.ml_show_text.specs.declared.refusal.ShowFault.TheVariants as fault

abbrev pub IsOfKind : Kind → List ℕ → Type 0
IsOfKind Realizability text = (t : Task) × (r : Outcome) × IsRealizeText text t r
IsOfKind UndecidedTask text = tasks.IsUndecidedTask text
IsOfKind (Decision Satisfiable) text =
    (p : Problem) × (m : Structure) × (start : ℕ) × structures_shown.IsDocument text p m start
IsOfKind (Decision Unsatisfiable) text =
    (v : Version) × (p : Problem) × (r : Refutation) × refutations_shown.IsDocument text v p r
IsOfKind (Decision Undecided) text = Shows Undecided text (λ v p body. causes.IsReadableBody body)

abbrev pub IsFaultOfKind : Kind → List ℕ → DocFault → Type 0
IsFaultOfKind Realizability text fault = IsRealizeFault text fault
IsFaultOfKind UndecidedTask text fault = tasks.IsFaultOf text fault
IsFaultOfKind (Decision Satisfiable) text fault = IsDocumentFault Satisfiable (λ v. structures.IsFaultOf) text fault
IsFaultOfKind (Decision Unsatisfiable) text fault = IsDocumentFault Unsatisfiable refutations.IsFaultOf text fault
IsFaultOfKind (Decision Undecided) text fault = IsDocumentFault Undecided (λ v. causes.IsFaultOf) text fault

abbrev pub read_as : List ℕ → ReadAs
read_as text = if has_answers text then Answers else Document (kind_of text)

abbrev pub IsReadAs : ReadAs → List ℕ → Type 0
IsReadAs Answers text =
    (l : Logic) × (xs : List Item) × (rs : List Replied) × (ks : List ℕ) × answers_shown.IsReadAs text l xs rs ks
IsReadAs (Document k) text = IsOfKind k text

abbrev pub IsFaultAs : ReadAs → List ℕ → ShowFault → Type 0
IsFaultAs Answers text (fault.Answers f) = IsFound text (finding_of f)
IsFaultAs Answers text (fault.Document f) = ⊥
IsFaultAs (Document k) text (fault.Answers f) = ⊥
IsFaultAs (Document k) text (fault.Document f) = IsFaultOfKind k text f

abbrev pub IsDocument : List ℕ → Type 0
IsDocument text = IsReadAs (read_as text) text

abbrev pub IsFault : List ℕ → ShowFault → Type 0
IsFault text f = IsFaultAs (read_as text) text f

abbrev pub IsShown : (text page : List ℕ) → Type 0
IsShown text page = IsDocument text × EndsWithLf page
