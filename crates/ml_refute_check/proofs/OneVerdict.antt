-- Checking a document finds one thing at most.
--
--   shown_both     == two that are true of what a text shows are true of one refutation for one problem
--   shown_fault, one_fault == a text that shows a refutation has no bad line, and each other one has one first bad line
--   alike_checked  == documents that show one refutation for one problem are both accepted, or neither is
--   one_found      == one thing at most is found of a refutation for a problem
--   one_verdict    == so checking finds one thing at most
use Rattle.std.proofs.Common.{◌≡◌, ℕ, List, Some, length, slice_get, inl, inr, refl, sym, ap, ◌∙◌, subst}
use Rattle.ml_base.specs.declared.doc_fault.DocFault.{DocFault}
use Rattle.ml_base.specs.declared.version.Version.{Version}
use Rattle.ml_front.specs.declared.answer.Answer.TheVariants.{Unsatisfiable}
use Rattle.ml_front.specs.declared.problem.Problem.{Problem}
use Rattle.ml_front.specs.Documents.{IsDocumentFault, first_body_line}
use Rattle.ml_front.proofs.Documents.{one_document_fault, shown_no_fault, together}
use Rattle.ml_refutation.specs.Refutation.{Refutation, IsRefutation}
use Rattle.ml_refutation.specs.Acceptance.{entry_at, IsAccepted}
use Rattle.ml_refutation_text.specs.BodyRules.{IsFaultOf, IsTextOf}
use Rattle.ml_refutation_text.proofs.RefutationTexts as body
use Rattle.ml_refutation_text.proofs.BodyRead.{one_parts}
use Rattle.ml_refute_check.specs.Documents.{IsDocument, ShowsRefutation, InGraph, IsRejectedBy, Finds, line_of}
use Rattle.ml_refute_check.specs.Laws.{IsAcceptedDocument, AlikeChecked, OneVerdict}
use Rattle.ml_refute_check.specs.declared.verdict.Verdict.{Verdict}
use Rattle.ml_refute_check.specs.declared.verdict.Verdict.TheVariants.{Accepted, Unreadable, Rejected}
use Rattle.ml_refute_check.proofs.AlikeGraphs.{accepted_same, first_bad_same}
use Rattle.ml_front.proofs.Graphs.{graphs_alike}
use Rattle.ml_refute_check.proofs.OneFault as parts

pub shown_both : (text : List ℕ) (P Q : Version → List ℕ → Problem → Refutation → Type 0)
    → ShowsRefutation text P
    → ShowsRefutation text Q
    → ShowsRefutation text (λ v rest p r. P v rest p r × Q v rest p r)
shown_both text P Q x y =
    let both =
    together Unsatisfiable text (λ v p rest. (r : Refutation) × IsRefutation r × IsTextOf v rest r × P v rest p r)
    (λ v p rest. (r : Refutation) × IsRefutation r × IsTextOf v rest r × Q v rest p r) x y in
    let one = both.holds.0 in
    let other = both.holds.1 in
    let same =
    body.one_refutation both.version both.body other.0 one.0 other.1 one.1 other.2 one.2 in
    record {
      version = both.version;
      problem = both.problem;
      body = both.body;
      has_head = both.has_head;
      holds = (one.0, one.1, one.2, (one.3, subst (Q both.version both.body both.problem) same other.3));
    }

-- what holds of them is said of this refutation for this problem
abbrev OfThese : Problem → Refutation → Version → List ℕ → Problem → Refutation → Type 0
OfThese p r v rest q s = (q ≡ p) × (s ≡ r)

accepted_so : (text other : List ℕ) (v w : Version) (p : Problem) (r : Refutation)
    → IsDocument text v p r → IsDocument other w p r → IsAcceptedDocument text → IsAcceptedDocument other
accepted_so text other v w p r x y a =
    let here : ShowsRefutation text (OfThese p r) = record {
      version = v;
      problem = p;
      body = x.0;
      has_head = x.1;
      holds = (r, x.2, x.3, (refl, refl));
    } in
    let both = shown_both text (Finds Accepted) (OfThese p r) a here in
    let same = both.holds.3.1 in
    let found : InGraph p (λ g. IsAccepted g r) =
    subst (λ s. InGraph p (λ g. IsAccepted g s)) same.1
    (subst (λ q. InGraph q (λ g. IsAccepted g both.holds.0)) same.0 both.holds.3.0) in
    record { version = w; problem = p; body = y.0; has_head = y.1; holds = (r, y.2, y.3, found) }

pub alike_checked : AlikeChecked
alike_checked text other v w p r x y =
    (accepted_so text other v w p r x y, accepted_so other text w v p r y x)

pub shown_fault : (text : List ℕ) {P : Version → List ℕ → Problem → Refutation → Type 0} (fault : DocFault)
    → ShowsRefutation text P
    → IsDocumentFault Unsatisfiable IsFaultOf text fault
    → ⊥
shown_fault text {P = P} fault x bad =
    shown_no_fault Unsatisfiable text IsFaultOf
    (λ v p rest. (r : Refutation) × IsRefutation r × IsTextOf v rest r × P v rest p r) fault
    (λ v p rest (r, ok, is, holds).
    body.fault_or_readable v rest first_body_line fault ((body.readable_is_refutation v rest).1 (r, ok, is))) x bad

one_fault : (text : List ℕ) (e f : DocFault)
    → IsDocumentFault Unsatisfiable IsFaultOf text e
    → IsDocumentFault Unsatisfiable IsFaultOf text f
    → e ≡ f
one_fault text e f x y =
    one_document_fault Unsatisfiable text IsFaultOf e f (λ v rest. body.one_fault v rest first_body_line e f) x y

-- ---- what is found of one refutation for one problem

module _ (v : Version) (rest : List ℕ) (p : Problem) (r : Refutation) (ok : IsRefutation r) where
  accepted_rejected : (l n : ℕ)
      → InGraph p (λ g. IsAccepted g r)
      → InGraph p (λ g. IsRejectedBy g v rest r l n)
      → ⊥
  accepted_rejected l n (fits, x) (shut, y) =
      let alike = graphs_alike p x.graph y.graph x.is_graph y.is_graph in
      parts.never_both y.graph r y.holds.entry y.holds.part n (accepted_same x.graph y.graph alike r x.holds)
      y.holds.is_first

  rejected_once : (l n k m : ℕ)
      → InGraph p (λ g. IsRejectedBy g v rest r l n)
      → InGraph p (λ g. IsRejectedBy g v rest r k m)
      → (l ≡ k) × (n ≡ m)
  rejected_once l n k m (fits, one) (shut, other) =
      let x = one.holds in
      let y = other.holds in
      let alike = graphs_alike p one.graph other.graph one.is_graph other.is_graph in
      let first = first_bad_same one.graph other.graph alike r x.entry x.part n x.is_first in
      let same = parts.one_fault other.graph r x.entry x.part n y.entry y.part m first y.is_first in
      let lines = one_parts v rest first_body_line r x.lines y.lines x.are_lines y.are_lines in
      let found : slice_get y.lines y.entry ≡ Some x.at =
      subst (λ e. slice_get y.lines e ≡ Some x.at) same.0
      (subst (λ ls. slice_get ls x.entry ≡ Some x.at) lines x.of_entry) in
      let both : Some x.at ≡ Some y.at = sym found ∙ y.of_entry in
      let at : x.at ≡ y.at = cc in
      let there : l ≡ line_of y.at (length (entry_at r y.entry).traces.items) y.part =
      subst (λ k. l ≡ line_of y.at (length (entry_at r y.entry).traces.items) k) same.1
      (subst (λ e. l ≡ line_of y.at (length (entry_at r e).traces.items) x.part) same.0
      (subst (λ t. l ≡ line_of t (length (entry_at r x.entry).traces.items) x.part) at x.is_line)) in
      (there ∙ sym y.is_line, same.2)

  rejected_alike : (l n k m : ℕ)
      → Finds (Rejected l n) v rest p r
      → Finds (Rejected k m) v rest p r
      → (l ≡ k) × (n ≡ m)
  rejected_alike l n k m (inl x) (inl y) = (x.1 ∙ sym y.1, x.2 ∙ sym y.2)
  rejected_alike l n k m (inl x) (inr y) = absurd (y.0 x.0)
  rejected_alike l n k m (inr x) (inl y) = absurd (x.0 y.0)
  rejected_alike l n k m (inr x) (inr y) = rejected_once l n k m x y

  apart : (l n : ℕ) → Finds Accepted v rest p r → Finds (Rejected l n) v rest p r → ⊥
  apart l n x (inl y) = x.0 y.0
  apart l n x (inr y) = accepted_rejected l n x y

  one_found : (x y : Verdict) → Finds x v rest p r → Finds y v rest p r → x ≡ y
  one_found Accepted Accepted a b = refl
  one_found Accepted (Rejected l n) a b = absurd (apart l n a b)
  one_found (Rejected l n) Accepted a b = absurd (apart l n b a)
  one_found (Rejected l n) (Rejected k m) a b =
      let same = rejected_alike l n k m a b in λ i. Rejected (same.0 i) (same.1 i)
  one_found (Unreadable f) y a b = absurd a
  one_found Accepted (Unreadable f) a b = absurd b
  one_found (Rejected l n) (Unreadable f) a b = absurd b

-- ---- one verdict

one_shown : (text : List ℕ) (v w : Verdict) → ShowsRefutation text (Finds v) → ShowsRefutation text (Finds w) → v ≡ w
one_shown text v w x y =
    let both = shown_both text (Finds v) (Finds w) x y in
    let found = both.holds.3 in
    one_found both.version both.body both.problem both.holds.0 both.holds.1 v w found.0 found.1

pub one_verdict : OneVerdict
one_verdict text (Unreadable e) (Unreadable f) x y = ap Unreadable (one_fault text e f x y)
one_verdict text (Unreadable e) Accepted x y = absurd (shown_fault text e y x)
one_verdict text (Unreadable e) (Rejected l n) x y = absurd (shown_fault text e y x)
one_verdict text Accepted (Unreadable f) x y = absurd (shown_fault text f x y)
one_verdict text (Rejected l n) (Unreadable f) x y = absurd (shown_fault text f x y)
one_verdict text Accepted Accepted x y = refl
one_verdict text Accepted (Rejected l n) x y = one_shown text Accepted (Rejected l n) x y
one_verdict text (Rejected l n) Accepted x y = one_shown text (Rejected l n) Accepted x y
one_verdict text (Rejected l n) (Rejected k m) x y = one_shown text (Rejected l n) (Rejected k m) x y
