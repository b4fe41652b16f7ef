-- A text is a document, or there is one reason why it is none, and never both.
--
--   document_or_fault, never_both, one_fault == so it is
use Rattle.std.proofs.Common.{◌≡◌, ◌⊎◌, ℕ, Bool, true, false, cond, List, inl, inr, refl, ap}
use Rattle.ml_answers.specs.Checked.{finding_of, has_answers, IsFound}
use Rattle.ml_answers.specs.declared.finding.AnswersFault.{AnswersFault}
use Rattle.ml_answers.proofs.OneReading as answers
use Rattle.ml_base.specs.declared.doc_fault.DocFault.{DocFault}
use Rattle.ml_front.specs.Documents.{IsDocumentFault, Shows, first_body_line}
use Rattle.ml_front.specs.declared.answer.Answer.TheVariants.{Satisfiable, Unsatisfiable, Undecided}
use Rattle.ml_front.proofs.Documents.{one_document_fault, shown_no_fault, shown_or_fault}
use Rattle.ml_lines.proofs.Faults as text
use Rattle.ml_model_check.proofs.OneCheck as structures
use Rattle.ml_realize_text.proofs.OneAnswer as outcomes
use Rattle.ml_refutation_text.specs.BodyRules as refutation_rules
use Rattle.ml_refutation_text.specs.Laws.{IsRefutationText}
use Rattle.ml_refute_check.proofs.OneVerdict as refutations
use Rattle.ml_refute_check.proofs.SomeVerdict.{refutation_or_fault}
use Rattle.ml_refute_check.specs.declared.verdict.Verdict.{Verdict}
use Rattle.ml_refute_check.specs.declared.verdict.Verdict.TheVariants.{Unreadable}
use Rattle.ml_show_text.specs.Kinds.{kind_of}
use Rattle.ml_show_text.specs.Laws.{DocumentOrFault, NeverBoth, OneFault}
use Rattle.ml_show_text.specs.Shown.{read_as, IsFaultAs, IsFaultOfKind, IsOfKind, IsReadAs}
use Rattle.ml_show_text.specs.UndecidedBodies as causes
use Rattle.ml_show_text.specs.UndecidedBodies.{AtCause, IsReadableBody}
use Rattle.ml_show_text.specs.declared.kind.Kind.{Kind}
use Rattle.ml_show_text.specs.declared.kind.Kind.TheVariants.{Realizability, UndecidedTask, Decision}
use Rattle.ml_show_text.specs.declared.input.ReadAs.{ReadAs}
use Rattle.ml_show_text.specs.declared.input.ReadAs.TheVariants.{Answers, Document}
use Rattle.ml_show_text.specs.declared.refusal.ShowFault.{ShowFault}
use Rattle.ml_show_text.specs.declared.refusal.ShowFault.TheVariants as shown
use Rattle.ml_show_text.proofs.CauseBodies.{body_or_fault}
use Rattle.ml_show_text.proofs.UndecidedTasks as tasks

-- ---- one of the two

abbrev EitherOfKind : Kind → List ℕ → Type 0
EitherOfKind k t = IsOfKind k t ⊎ ((fault : DocFault) × IsFaultOfKind k t fault)

refuted : (t : List ℕ)
    → Shows Unsatisfiable t (λ v p body. IsRefutationText v body)
    ⊎ ((fault : DocFault) × IsDocumentFault Unsatisfiable refutation_rules.IsFaultOf t fault)
    → EitherOfKind (Decision Unsatisfiable) t
refuted t (inl x) = inl (x.version, x.problem, x.holds.0, (x.body, x.has_head, x.holds.1, x.holds.2))
refuted t (inr bad) = inr bad

of_kind : (k : Kind) (t : List ℕ) → EitherOfKind k t
of_kind Realizability t = outcomes.some_reading t
of_kind UndecidedTask t = tasks.document_or_fault t
of_kind (Decision Satisfiable) t = structures.document_or_fault t
of_kind (Decision Unsatisfiable) t = refuted t (refutation_or_fault t)
of_kind (Decision Undecided) t =
    shown_or_fault Undecided t (λ v. causes.IsFaultOf) (λ v. IsReadableBody) (λ v body. body_or_fault body first_body_line)

abbrev Either : ReadAs → List ℕ → Type 0
Either r t = IsReadAs r t ⊎ ((fault : ShowFault) × IsFaultAs r t fault)

of_answers : (t : List ℕ) → has_answers t ≡ true → Either Answers t
of_answers t has = go (answers.some_reading t has)
  where
    go : IsReadAs Answers t ⊎ ((f : AnswersFault) × IsFound t (finding_of f)) → Either Answers t
    go (inl read) = inl read
    go (inr (f, found)) = inr (shown.Answers f, found)

of_document : (k : Kind) (t : List ℕ) → Either (Document k) t
of_document k t = go (of_kind k t)
  where
    go : EitherOfKind k t → Either (Document k) t
    go (inl is) = inl is
    go (inr (fault, bad)) = inr (shown.Document fault, bad)

pub document_or_fault : DocumentOrFault
document_or_fault t = by (has_answers t) refl
  where
    by : (b : Bool) → has_answers t ≡ b → Either (cond b Answers (Document (kind_of t))) t
    by true has = of_answers t has
    by false none = of_document (kind_of t) t

-- ---- never both

both_of_kind : (k : Kind) (t : List ℕ) (fault : DocFault) → IsOfKind k t → ¬ (IsFaultOfKind k t fault)
both_of_kind Realizability t fault (task, r, is) bad = outcomes.text_or_fault t task r fault is bad
both_of_kind UndecidedTask t fault is bad = tasks.document_no_fault t fault is bad
both_of_kind (Decision Satisfiable) t fault (p, m, start, is) bad = structures.document_fault t p m start fault is bad
both_of_kind (Decision Unsatisfiable) t fault (v, p, r, (body, head, is, shows)) bad =
    refutations.shown_fault t {P = λ v body p r. Unit {0}} fault
    (record { version = v; problem = p; body = body; has_head = head; holds = (r, is, shows, tt) }) bad
both_of_kind (Decision Undecided) t fault x bad =
    shown_no_fault Undecided t (λ v. causes.IsFaultOf) (λ v p body. IsReadableBody body) fault
    (λ v p body readable found. text.readable_no_fault causes.body first_body_line AtCause body fault readable found) x bad

both_as : (r : ReadAs) (t : List ℕ) (fault : ShowFault) → IsReadAs r t → ¬ (IsFaultAs r t fault)
both_as Answers t (shown.Answers f) (l, xs, rs, ks, read) found = answers.read_no_fault t l xs rs ks f read found
both_as Answers t (shown.Document f) read bad = bad
both_as (Document k) t (shown.Answers f) is bad = bad
both_as (Document k) t (shown.Document f) is bad = both_of_kind k t f is bad

pub never_both : NeverBoth
never_both t fault x bad = both_as (read_as t) t fault x bad

-- ---- one bad line

-- the bad line of what can't be read, and this one else
abbrev told_by : DocFault → Verdict → DocFault
told_by other (Unreadable fault) = fault
told_by other _ = other

fault_of_kind : (k : Kind) (t : List ℕ) (e f : DocFault) → IsFaultOfKind k t e → IsFaultOfKind k t f → e ≡ f
fault_of_kind Realizability t e f x y = outcomes.one_fault t e f x y
fault_of_kind UndecidedTask t e f x y = tasks.one_fault t e f x y
fault_of_kind (Decision Satisfiable) t e f x y = structures.one_fault t e f x y
fault_of_kind (Decision Unsatisfiable) t e f x y =
    ap (told_by e) (refutations.one_verdict t (Unreadable e) (Unreadable f) x y)
fault_of_kind (Decision Undecided) t e f x y =
    one_document_fault Undecided t (λ v. causes.IsFaultOf) e f
    (λ v body. text.one_fault causes.body first_body_line AtCause body e f) x y

fault_as : (r : ReadAs) (t : List ℕ) (e f : ShowFault) → IsFaultAs r t e → IsFaultAs r t f → e ≡ f
fault_as Answers t (shown.Answers e) (shown.Answers f) x y = ap shown.Answers (answers.one_fault t e f x y)
fault_as Answers t (shown.Document e) f x y = absurd x
fault_as Answers t (shown.Answers e) (shown.Document f) x y = absurd y
fault_as (Document k) t (shown.Document e) (shown.Document f) x y = ap shown.Document (fault_of_kind k t e f x y)
fault_as (Document k) t (shown.Answers e) f x y = absurd x
fault_as (Document k) t (shown.Document e) (shown.Answers f) x y = absurd y

pub one_fault : OneFault
one_fault t e f x y = fault_as (read_as t) t e f x y
