-- Checking a text finds exactly one thing.
--
--   one_document     == a text shows one structure and start for one problem
--   document_fault   == a text that shows a structure has no bad line
--   one_fault        == a text has one first bad line at most
--   one_check        == so checking finds one thing at most
--   document_or_fault == a text shows a structure and a start for a problem, or has a first bad line
--   some_check       == so checking finds something
use Rattle.std.proofs.Common.{◌≡◌, ℕ, ◌⊎◌, List, refl, sym, ap, subst, ◌∙◌, inl, inr}
use Rattle.ml_base.specs.Structure.{Structure}
use Rattle.ml_base.specs.declared.doc_fault.DocFault.{DocFault}
use Rattle.ml_kripke.specs.BodyRules.{IsFaultOf}
use Rattle.ml_kripke.specs.Laws.{IsModelText}
use Rattle.ml_kripke.specs.ModelText.{model_text}
use Rattle.ml_kripke.proofs.OneFault as body
use Rattle.ml_kripke.proofs.OneText.{one_text}
use Rattle.ml_front.specs.Documents.{Shows, first_body_line}
use Rattle.ml_front.specs.HeadRules.{IsHead}
use Rattle.ml_front.specs.declared.answer.Answer.TheVariants.{Satisfiable}
use Rattle.ml_front.specs.declared.problem.Problem.{Problem}
use Rattle.ml_front.proofs.Documents.{one_document_fault, shown_no_fault, shown_or_fault}
use Rattle.ml_front.proofs.Graphs.{meaningful}
use Rattle.ml_front.proofs.HeadLines.{one_head}
use Rattle.ml_front.proofs.Logics.{parsed_well}
use Rattle.ml_model_check.specs.Checked.{Finds, IsCheckedAs, IsDocument}
use Rattle.ml_model_check.specs.Laws.{OneCheck, SomeCheck}
use Rattle.ml_model_check.specs.declared.checked.Checked.{Checked}
use Rattle.ml_model_check.specs.declared.checked.Checked.TheVariants.{Unreadable}
use Rattle.ml_model_check.proofs.Findings.{IsFault, IsFoundBad, IsFoundIn, found_in, one_finding, some_finding, told}

pub one_document : (text : List ℕ) (p q : Problem) (m n : Structure) (s t : ℕ)
    → IsDocument text p m s
    → IsDocument text q n t
    → (p ≡ q) × ((m ≡ n) × (s ≡ t))
one_document text p q m n s t x y =
    let heads = one_head Satisfiable text x.0 y.0 p q (model_text m s) (model_text n t) x.1 y.1 in
    (heads.1, one_text m n s t x.2 y.2 heads.2)

pub document_fault : (text : List ℕ) (p : Problem) (m : Structure) (s : ℕ) (fault : DocFault)
    → IsDocument text p m s
    → IsFault text fault
    → ⊥
document_fault text p m s fault x bad =
    let shown : Shows Satisfiable text (λ v p body. IsModelText body) = record {
      version = x.0;
      problem = p;
      body = model_text m s;
      has_head = x.1;
      holds = (m, s, x.2, x.3, refl);
    } in
    shown_no_fault Satisfiable text (λ v. IsFaultOf) (λ v p body. IsModelText body) fault
    (λ v p text is. body.fault_or_model text first_body_line fault is) shown bad

pub one_fault : (text : List ℕ) (e f : DocFault) → IsFault text e → IsFault text f → e ≡ f
one_fault text e f x y =
    one_document_fault Satisfiable text (λ v. IsFaultOf) e f (λ v text. body.one_fault text first_body_line e f) x y

pub one_check : OneCheck
one_check text c d x y = go (found_in text c x) (found_in text d y)
  where
    go : IsFoundIn text c ⊎ IsFoundBad text c → IsFoundIn text d ⊎ IsFoundBad text d → c ≡ d
    go (inl (p, m, s, is, finds)) (inl (q, n, t, so, also)) =
        let same = one_document text p q m n s t is so in
        let there : Finds c q n t =
        subst (λ k. Finds c q n k) same.1.1 (subst (λ k. Finds c q k s) same.1.0 (subst (λ k. Finds c k m s) same.0 finds)) in
        one_finding q n t c d there also
    go (inl (p, m, s, is, finds)) (inr (f, so, bad)) = absurd (document_fault text p m s f is bad)
    go (inr (e, so, bad)) (inl (p, m, s, is, finds)) = absurd (document_fault text p m s e is bad)
    go (inr (e, is, bad)) (inr (f, so, worse)) = is ∙ ap Unreadable (one_fault text e f bad worse) ∙ sym so

-- ---- something is found

abbrev pub SomeDocument : List ℕ → Type 0
SomeDocument text = (p : Problem) × (m : Structure) × (s : ℕ) × IsDocument text p m s

abbrev pub SomeFault : List ℕ → Type 0
SomeFault text = (fault : DocFault) × IsFault text fault

pub document_or_fault : (text : List ℕ) → SomeDocument text ⊎ SomeFault text
document_or_fault text =
    go (shown_or_fault Satisfiable text (λ v. IsFaultOf) (λ v. IsModelText) (λ v text. body.model_or_fault text first_body_line))
  where
    go : Shows Satisfiable text (λ v p body. IsModelText body) ⊎ SomeFault text → SomeDocument text ⊎ SomeFault text
    go (inl x) =
        let m = x.holds.0 in
        let s = x.holds.1 in
        let there = subst (IsHead Satisfiable text x.version x.problem) x.holds.4 x.has_head in
        inl (x.problem, m, s, (x.version, there, x.holds.2, x.holds.3))
    go (inr bad) = inr bad

pub some_check : SomeCheck
some_check text = go (document_or_fault text)
  where
    by_finding : (p : Problem) (m : Structure) (s : ℕ) → IsDocument text p m s → ((c : Checked) × Finds c p m s)
        → (c : Checked) × IsCheckedAs text c
    by_finding p m s is (c, finds) = (c, told text c (p, m, s, is, finds))

    go : SomeDocument text ⊎ SomeFault text → (c : Checked) × IsCheckedAs text c
    go (inl (p, m, s, is)) =
        let h = is.1 in
        let well = parsed_well h.formula_text p.formula h.is_parsed in
        by_finding p m s is (some_finding p m s (meaningful p.formula well) is.2.is_structure is.2.is_state)
    go (inr (fault, found)) = (Unreadable fault, found)
