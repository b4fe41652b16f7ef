-- What is found of paths, beside what checking the document finds.
--
--   found_where_it_holds == where the document has the sense of its path problem
--   found_where_it_fails == where it has the other one
use Rattle.std.proofs.Common.{ℕ, ◌≡◌, ◌≢◌, ◌<◌, ◌↔◌, ◌⊎◌, ⊎_elim, Bool, List, true, inl, inr, refl, subst}
use Rattle.ml_base.specs.Structure.{Structure}
use Rattle.ml_ctl.specs.Formula.{Formula}
use Rattle.ml_ctl.specs.Sorts.{is_linear}
use Rattle.ml_front.specs.Logics.{logic_of}
use Rattle.ml_front.specs.Problems.{HoldsAt, IsAdmitted}
use Rattle.ml_front.specs.declared.problem.Problem.{Problem}
use Rattle.ml_front.proofs.Graphs.{never_both}
use Rattle.ml_model_check.specs.Checked.{Finds as Checks, IsCheckedAs}
use Rattle.ml_model_check.specs.declared.checked.Checked.{Checked}
use Rattle.ml_model_check.specs.declared.checked.Checked.TheVariants as checked
use Rattle.ml_model_check.proofs.Findings.{IsFoundBad as IsCheckedBad, IsFoundIn as IsCheckedOf, found_in as checked_in}
use Rattle.ml_model_check.proofs.OneCheck.{document_fault, one_document}
use Rattle.ml_path_text.specs.Found.{Asks, Finds, IsFoundIn}
use Rattle.ml_path_text.specs.Laws.{FoundWhereItFails, FoundWhereItHolds, IsPath, NeitherIsLarge}
use Rattle.ml_path_text.specs.PathProblems.{AsksFor}
use Rattle.ml_path_text.specs.declared.finding.PathFinding.{PathFinding}
use Rattle.ml_path_text.specs.declared.finding.PathFinding.TheVariants.{ClosureTooLarge, NoPath, NotAWord, NotTotal, Path, Unreadable}
use Rattle.ml_path_text.proofs.Documents.{asked_formula, asked_readable, one_asked}
use Rattle.ml_path_text.proofs.Holding.{IsShownFrom, holds_shown, none_holds, shown_fails, shown_holds}
use Rattle.ml_path_text.proofs.OneFinding.{IsFoundBad, IsFoundOf, found_in, found_same}

-- what is checked of the document that asks
checks : (text : List ℕ) (p : Problem) (m : Structure) (s : ℕ) (f : Formula) (b : Bool) (c : Checked)
    → Asks text p m s f b
    → IsCheckedAs text c
    → Checks c p m s
checks text p m s f b c asks is = go (checked_in text c is)
  where
    go : IsCheckedOf text c ⊎ IsCheckedBad text c → Checks c p m s
    go (inl (q, n, t, so, there)) =
        let same = one_document text q p n m t s so asks.is_document in
        let of_problem = subst (λ r. Checks c r n t) same.0 there in
        subst (λ u. Checks c p m u) same.1.1 (subst (λ k. Checks c p k t) same.1.0 of_problem)
    go (inr (fault, so, bad)) = absurd (document_fault text p m s fault asks.is_document bad)

-- what is found of it
finds : (text : List ℕ) (p : Problem) (m : Structure) (s : ℕ) (f : Formula) (b : Bool) (x : PathFinding)
    → Asks text p m s f b
    → IsFoundIn text x
    → Finds x (logic_of p.formula) m s f b
finds text p m s f b x asks is = go (found_in text x is)
  where
    go : IsFoundOf text x ⊎ IsFoundBad text x → Finds x (logic_of p.formula) m s f b
    go (inl (q, n, t, g, d, so, there)) =
        found_same x q p n m t s g f d b (one_asked text q p n m t s g f d b so asks) there
    go (inr (fault, so, bad)) = absurd (asked_readable text p m s f b fault asks bad)

module _ (p : Problem) (m : Structure) (s : ℕ) (f : Formula) (b : Bool) where
  abbrev Speaks : Type 0
  Speaks = IsAdmitted (logic_of p.formula) m

  abbrev Shown : Type 0
  Shown = IsShownFrom m s f b

  abbrev Found : PathFinding → Type 0
  Found x = Finds x (logic_of p.formula) m s f b

  abbrev Told : Checked → Type 0
  Told c = ((c ≡ checked.Holds) × HoldsAt m s p) ⊎ ((c ≡ checked.Fails) × (¬ (HoldsAt m s p)))

  -- where the logic speaks of the structure, checking finds one of two things
  told : (c : Checked) → Checks c p m s → Speaks → c ≢ checked.ClosureTooLarge → Told c
  told checked.Holds is speaks few = inl (refl, is.2)
  told checked.Fails is speaks few = inr (refl, is.2)
  told (checked.NotTotal dead) is speaks few = absurd (never_both (logic_of p.formula) m dead speaks (inl is))
  told (checked.NotAWord fork) is speaks few = absurd (never_both (logic_of p.formula) m fork speaks (inr is))
  told checked.ClosureTooLarge is speaks few = absurd (few refl)
  told (checked.Unreadable fault) is speaks few = absurd is

  -- and so does who looks for a path
  seen : (x : PathFinding) → Found x → Speaks → x ≢ ClosureTooLarge → (IsPath x × Shown) ⊎ ((¬ (IsPath x)) × (¬ Shown))
  seen (Path a) is speaks few = inl (tt, (is.2.0, is.2.1))
  seen NoPath is speaks few = inr (λ path. path, λ shown. is.2 shown.0 shown.1)
  seen (NotTotal dead) is speaks few = absurd (never_both (logic_of p.formula) m dead speaks (inl is))
  seen (NotAWord fork) is speaks few = absurd (never_both (logic_of p.formula) m fork speaks (inr is))
  seen ClosureTooLarge is speaks few = absurd (few refl)
  seen (Unreadable fault) is speaks few = absurd is

  -- a path is found where the logic speaks of the structure, and is shown
  path_seen : (x : PathFinding) → Found x → IsPath x → Speaks × Shown
  path_seen (Path a) is path = (is.0, (is.2.0, is.2.1))
  path_seen NoPath is path = absurd path
  path_seen (NotTotal dead) is path = absurd path
  path_seen (NotAWord fork) is path = absurd path
  path_seen ClosureTooLarge is path = absurd path
  path_seen (Unreadable fault) is path = absurd path

  module _ (low : s < m.states) (linear : is_linear f ≡ true) (asks : AsksFor p f b) (x : PathFinding) (c : Checked)
      (found : Found x) (checks : Checks c p m s) (few : NeitherIsLarge x c) where
    -- where a path is shown checking finds one thing, and where none is the other one
    with_path : (d : Checked)
        → (Speaks → Shown → Told c → c ≡ d)
        → IsPath x
        → c ≡ d
    with_path d so path =
        let there = path_seen x found path in so there.0 there.1 (told c checks there.0 few.few_checked)

    from_check : Speaks → ¬ (¬ Shown) → IsPath x
    from_check speaks some =
        ⊎_elim (λ (is : IsPath x × Shown). is.0) (λ (is : (¬ (IsPath x)) × (¬ Shown)). absurd (some is.1))
        (seen x found speaks few.few_found)

    holds_there : p.negated ≡ b → IsPath x ↔ (c ≡ checked.Holds)
    holds_there same = (with_path checked.Holds there, back)
      where
        there : Speaks → Shown → Told c → c ≡ checked.Holds
        there speaks shown (inl is) = is.0
        there speaks shown (inr is) = absurd (is.1 (shown_holds m s low f linear b p asks speaks same shown))

        back : c ≡ checked.Holds → IsPath x
        back is =
            let holds = subst (λ d. Checks d p m s) is checks in
            from_check holds.0 (holds_shown m s low f linear b p asks same holds.2)

    fails_there : p.negated ≢ b → IsPath x ↔ (c ≡ checked.Fails)
    fails_there other = (with_path checked.Fails there, back)
      where
        there : Speaks → Shown → Told c → c ≡ checked.Fails
        there speaks shown (inl is) = absurd (shown_fails m s low f linear b p asks other shown is.1)
        there speaks shown (inr is) = is.0

        back : c ≡ checked.Fails → IsPath x
        back is =
            let fails = subst (λ d. Checks d p m s) is checks in
            from_check fails.0 (λ none. fails.2 (none_holds m s low f linear b p asks other none))

pub found_where_it_holds : FoundWhereItHolds
found_where_it_holds text p m s f b x c asks is_found is_checked few same =
    holds_there p m s f b asks.is_document.2.is_state (asked_formula text p m s f b asks).is_of_logic asks.asks_for x c
    (finds text p m s f b x asks is_found) (checks text p m s f b c asks is_checked) few same

pub found_where_it_fails : FoundWhereItFails
found_where_it_fails text p m s f b x c asks is_found is_checked few other =
    fails_there p m s f b asks.is_document.2.is_state (asked_formula text p m s f b asks).is_of_logic asks.asks_for x c
    (finds text p m s f b x asks is_found) (checks text p m s f b c asks is_checked) few other
