-- What a text shows, it shows of one head and one body.
--
--   together       == two that a text shows are true of one head and one body
--   shown_no_fault == a text whose body has no bad line has none itself
--   one_document_fault == a text has one first bad line at most, where its body has
--   shown_or_fault == a text shows a good body, or has a first bad line, where a body is good or has one
--   shown_well     == what it shows is said of a well-formed formula
use Rattle.std.proofs.Common.{◌≡◌, ℕ, ◌⊎◌, List, inl, inr, subst}
use Rattle.ml_base.specs.declared.doc_fault.DocFault.{DocFault}
use Rattle.ml_base.specs.declared.version.Version.{Version}
use Rattle.ml_front.specs.Documents.{Shows, IsDocumentFault, first_body_line}
use Rattle.ml_front.specs.HeadRules.{IsHead, IsHeadFault}
use Rattle.ml_front.specs.Logics.{IsWellFormed}
use Rattle.ml_front.specs.declared.answer.Answer.{Answer}
use Rattle.ml_front.specs.declared.problem.Problem.{Problem}
use Rattle.ml_front.proofs.HeadLines.{one_head}
use Rattle.ml_front.proofs.Logics.{parsed_well}
use Rattle.ml_front.proofs.OneFault as head

module _ (a : Answer) (text : List ℕ) where
  pub shown_well : (P : Version → Problem → List ℕ → Type 0) (x : Shows a text P) → IsWellFormed x.problem.formula
  shown_well P x = let h = x.has_head in parsed_well h.formula_text x.problem.formula h.is_parsed

  pub together : (P Q : Version → Problem → List ℕ → Type 0)
      → Shows a text P
      → Shows a text Q
      → Shows a text (λ v p body. P v p body × Q v p body)
  together P Q x y =
      let same = one_head a text y.version x.version y.problem x.problem y.body x.body y.has_head x.has_head in
      record {
        version = x.version;
        problem = x.problem;
        body = x.body;
        has_head = x.has_head;
        holds = (
          x.holds,
          subst (Q x.version x.problem) same.2
              (subst (λ p. Q x.version p y.body) same.1 (subst (λ v. Q v y.problem y.body) same.0 y.holds)),
        );
      }

  module _ (IsFaultOf : Version → List ℕ → ℕ → DocFault → Type 0) where
    abbrev IsBodyFault : DocFault → Version → Problem → List ℕ → Type 0
    IsBodyFault fault v p body = IsFaultOf v body first_body_line fault

    pub shown_no_fault : (P : Version → Problem → List ℕ → Type 0) (fault : DocFault)
        → ((v : Version) (p : Problem) (body : List ℕ) → P v p body → IsFaultOf v body first_body_line fault → ⊥)
        → Shows a text P
        → IsDocumentFault a IsFaultOf text fault
        → ⊥
    shown_no_fault P fault never x (inl of_head) =
        head.head_or_fault a text x.version x.problem x.body fault x.has_head of_head
    shown_no_fault P fault never x (inr of_body) =
        let both = together P (IsBodyFault fault) x of_body in
        never both.version both.problem both.body both.holds.0 both.holds.1

    pub one_document_fault : (e f : DocFault)
        → ((v : Version) (body : List ℕ) → IsFaultOf v body first_body_line e → IsFaultOf v body first_body_line f → e ≡ f)
        → IsDocumentFault a IsFaultOf text e
        → IsDocumentFault a IsFaultOf text f
        → e ≡ f
    one_document_fault e f once (inl x) (inl y) = head.one_fault a text e f x y
    one_document_fault e f once (inl x) (inr y) =
        absurd (head.head_or_fault a text y.version y.problem y.body e y.has_head x)
    one_document_fault e f once (inr x) (inl y) =
        absurd (head.head_or_fault a text x.version x.problem x.body f x.has_head y)
    one_document_fault e f once (inr x) (inr y) =
        let both = together (IsBodyFault e) (IsBodyFault f) x y in
        once both.version both.body both.holds.0 both.holds.1

    pub shown_or_fault : (P : Version → List ℕ → Type 0)
        → ((v : Version) (body : List ℕ) → P v body ⊎ ((fault : DocFault) × IsFaultOf v body first_body_line fault))
        → Shows a text (λ v p body. P v body) ⊎ ((fault : DocFault) × IsDocumentFault a IsFaultOf text fault)
    shown_or_fault P either = by_head (head.some_head a text)
      where
        by_body : (v : Version) (p : Problem) (rest : List ℕ) → IsHead a text v p rest
            → P v rest ⊎ ((fault : DocFault) × IsFaultOf v rest first_body_line fault)
            → Shows a text (λ v p body. P v body) ⊎ ((fault : DocFault) × IsDocumentFault a IsFaultOf text fault)
        by_body v p rest h (inl good) =
            inl (record { version = v; problem = p; body = rest; has_head = h; holds = good })
        by_body v p rest h (inr (fault, bad)) =
            inr (fault, inr (record { version = v; problem = p; body = rest; has_head = h; holds = bad }))

        by_head : ((v : Version) × (p : Problem) × (rest : List ℕ) × IsHead a text v p rest)
            ⊎ ((fault : DocFault) × IsHeadFault a text fault)
            → Shows a text (λ v p body. P v body) ⊎ ((fault : DocFault) × IsDocumentFault a IsFaultOf text fault)
        by_head (inl (v, p, rest, h)) = by_body v p rest h (either v rest)
        by_head (inr (fault, bad)) = inr (fault, inl bad)
