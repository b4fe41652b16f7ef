-- Something is found of each text, and one thing at most.
--
--   IsFoundOf text x, IsFoundBad text x == x is found of what the text asks for; x is its first bad line
--   found_in, told   == what is found in a text is one of both
--   some_finding     == something is found
--   one_finding      == and one thing at most, up to which path is shown
use Rattle.std.proofs.Common.{ℕ, ◌≡◌, ◌⊎◌, ◌∙◌, Bool, List, inl, inr, refl, sym, ap, subst}
use Rattle.ml_base.specs.Structure.{Structure}
use Rattle.ml_base.specs.declared.doc_fault.DocFault.{DocFault}
use Rattle.ml_ctl.specs.Formula.{Formula}
use Rattle.ml_front.specs.Logics.{logic_of}
use Rattle.ml_front.specs.declared.problem.Problem.{Problem}
use Rattle.ml_path_text.specs.Found.{Asks, Finds, IsFoundIn, IsUnreadable}
use Rattle.ml_path_text.specs.Laws.{AreAlike, OneFinding, SomeFinding}
use Rattle.ml_path_text.specs.declared.finding.PathFinding.{PathFinding}
use Rattle.ml_path_text.specs.declared.finding.PathFinding.TheVariants.{ClosureTooLarge, NoPath, NotAWord, NotTotal, Path, Unreadable}
use Rattle.ml_path_text.proofs.Documents.{AreSame, SomeAsked, SomeFault, asked_formula, asked_or_fault, asked_readable, one_asked, one_fault}
use Rattle.ml_path_text.proofs.Findings as plain

abbrev pub IsFoundOf : List ℕ → PathFinding → Type 0
IsFoundOf text x =
    (p : Problem) × (m : Structure) × (s : ℕ) × (f : Formula) × (b : Bool)
    × Asks text p m s f b × Finds x (logic_of p.formula) m s f b

abbrev pub IsFoundBad : List ℕ → PathFinding → Type 0
IsFoundBad text x = (fault : DocFault) × (x ≡ Unreadable fault) × IsUnreadable text fault

pub found_in : (text : List ℕ) (x : PathFinding) → IsFoundIn text x → IsFoundOf text x ⊎ IsFoundBad text x
found_in text (Unreadable fault) is = inr (fault, refl, is)
found_in text (Path a) is = inl is
found_in text NoPath is = inl is
found_in text ClosureTooLarge is = inl is
found_in text (NotTotal dead) is = inl is
found_in text (NotAWord fork) is = inl is

pub told : (text : List ℕ) (x : PathFinding) → IsFoundOf text x → IsFoundIn text x
told text (Unreadable fault) (p, m, s, f, b, asks, finds) = absurd finds
told text (Path a) is = is
told text NoPath is = is
told text ClosureTooLarge is = is
told text (NotTotal dead) is = is
told text (NotAWord fork) is = is

-- what is found of one is found of the other, if they are the same
pub found_same : (x : PathFinding) (p q : Problem) (m n : Structure) (s t : ℕ) (f g : Formula) (b c : Bool)
    → AreSame p q m n s t f g b c
    → Finds x (logic_of p.formula) m s f b
    → Finds x (logic_of q.formula) n t g c
found_same x p q m n s t f g b c same finds =
    subst (λ d. Finds x (logic_of q.formula) n t g d) same.sense
    (subst (λ h. Finds x (logic_of q.formula) n t h b) same.formula
    (subst (λ u. Finds x (logic_of q.formula) n u f b) same.start
    (subst (λ k. Finds x (logic_of q.formula) k s f b) same.structure
    (subst (λ (r : Problem). Finds x (logic_of r.formula) m s f b) same.problem finds))))

same_bad : (x y : PathFinding) → x ≡ y → AreAlike x y
same_bad (Path a) (Path b) is = tt
same_bad (Path a) NoPath is = is
same_bad (Path a) ClosureTooLarge is = is
same_bad (Path a) (NotTotal dead) is = is
same_bad (Path a) (NotAWord fork) is = is
same_bad (Path a) (Unreadable fault) is = is
same_bad NoPath y is = is
same_bad ClosureTooLarge y is = is
same_bad (NotTotal dead) y is = is
same_bad (NotAWord fork) y is = is
same_bad (Unreadable fault) y is = is

pub one_finding : OneFinding
one_finding text x y is_x is_y = go (found_in text x is_x) (found_in text y is_y)
  where
    go : IsFoundOf text x ⊎ IsFoundBad text x → IsFoundOf text y ⊎ IsFoundBad text y → AreAlike x y
    go (inl (p, m, s, f, b, asks, finds)) (inl (q, n, t, g, c, also, there)) =
        let same = one_asked text p q m n s t f g b c asks also in
        plain.one_finding (logic_of q.formula) n t g c x y (found_same x p q m n s t f g b c same finds) there
    go (inl (p, m, s, f, b, asks, finds)) (inr (fault, is, bad)) = absurd (asked_readable text p m s f b fault asks bad)
    go (inr (fault, is, bad)) (inl (q, n, t, g, c, also, there)) = absurd (asked_readable text q n t g c fault also bad)
    go (inr (e, is, bad)) (inr (f, so, worse)) =
        same_bad x y (is ∙ ap Unreadable (one_fault text e f bad worse) ∙ sym so)

pub some_finding : SomeFinding
some_finding text = go (asked_or_fault text)
  where
    by_finding : (p : Problem) (m : Structure) (s : ℕ) (f : Formula) (b : Bool) → Asks text p m s f b
        → ((x : PathFinding) × Finds x (logic_of p.formula) m s f b)
        → (x : PathFinding) × IsFoundIn text x
    by_finding p m s f b asks (x, finds) = (x, told text x (p, m, s, f, b, asks, finds))

    go : SomeAsked text ⊎ SomeFault text → (x : PathFinding) × IsFoundIn text x
    go (inl (p, m, s, f, b, asks)) =
        let written = asks.is_document.2 in
        by_finding p m s f b asks
        (plain.some_finding (logic_of p.formula) m s f b written.is_structure written.is_state
        (asked_formula text p m s f b asks).is_of_logic)
    go (inr (fault, bad)) = (Unreadable fault, bad)
