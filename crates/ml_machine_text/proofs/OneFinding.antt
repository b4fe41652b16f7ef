-- Something is found in each text, and one thing at most.
--
--   one_found, one_finding   == one thing at most, up to which word is shown
--   some_found, some_finding == and something
use Rattle.std.proofs.Common.{ℕ, ◌≡◌, ◌⊎◌, List, inl, inr, refl, sym, ap, subst, arith}
use Rattle.std.proofs.lemmas.List.{length-map}
use Rattle.ml_base.specs.declared.doc_fault.DocFault.{DocFault}
use Rattle.ml_machine_check.specs.Checked as check
use Rattle.ml_machine_check.specs.Checked.{Breaks, IsChecked}
use Rattle.ml_machine_check.specs.declared.found.MachineVerdict.{MachineVerdict}
use Rattle.ml_machine_check.specs.declared.found.MachineVerdict.TheVariants as checked
use Rattle.ml_machine_check.proofs.OneCheck.{not_right}
use Rattle.ml_machine_check.proofs.SomeCheck.{some_check}
use Rattle.ml_model_check.specs.WrittenDocument.{satisfiable_document}
use Rattle.ml_realize.specs.Realizing.{word_of}
use Rattle.ml_realize_text.specs.ReadText.{Fits, IsRealizeText}
use Rattle.ml_realize_text.specs.RealizeRules.{IsRealizeFault}
use Rattle.ml_realize_text.proofs.OneAnswer as texts
use Rattle.ml_realize_text.proofs.OneDocument.{one_reading}
use Rattle.ml_synthesis.specs.declared.outcome.Outcome.{Outcome}
use Rattle.ml_synthesis.specs.declared.outcome.Outcome.TheVariants as outcome
use Rattle.ml_task.specs.NameSets.{members}
use Rattle.ml_task.specs.Task.{Task, names_of}
use Rattle.ml_trace.specs.WordAutomata.{WordLasso}
use Rattle.ml_machine_text.specs.Found.{Finds, IsFoundIn, ShowsWord, problem_of}
use Rattle.ml_machine_text.specs.Laws.{AreAlike, OneFinding, SomeFinding}
use Rattle.ml_machine_text.specs.declared.finding.MachineFinding.{MachineFinding}
use Rattle.ml_machine_text.specs.declared.finding.MachineFinding.TheVariants.{ClosureTooLarge, Fails, Holds, Unreadable}
use Rattle.ml_machine_text.proofs.Confirmed.{word_loops}
use Rattle.ml_machine_text.proofs.OrderedRuns.{ordered_run, run_is, run_is_ordered, run_is_structure}

-- the outcome of a text has the inputs and outputs of its task
pub fits_check : (t : Task) (r : Outcome) → Fits t r → check.Fits t r
fits_check t (outcome.Made m) fits = fits
fits_check t (outcome.Defeated e) fits = fits

-- ---- of one outcome

one_found : (t : Task) (r : Outcome) (x y : MachineFinding) → Finds x t r → Finds y t r → AreAlike x y
one_found t r Holds Holds a b = refl
one_found t r Holds (Fails d) a b = absurd (not_right t r b.1.shown b.1.breaks a.1)
one_found t r Holds ClosureTooLarge a b = absurd (a.0 b)
one_found t r (Fails d) Holds a b = absurd (not_right t r a.1.shown a.1.breaks b.1)
one_found t r (Fails d) (Fails e) a b = tt
one_found t r (Fails d) ClosureTooLarge a b = absurd (a.0 b)
one_found t r ClosureTooLarge Holds a b = absurd (b.0 a)
one_found t r ClosureTooLarge (Fails d) a b = absurd (b.0 a)
one_found t r ClosureTooLarge ClosureTooLarge a b = refl
one_found t r (Unreadable fault) y a b = absurd a
one_found t r x (Unreadable fault) a b = absurd b

pub shows : (t : Task) (r : Outcome) (w : WordLasso ℕ)
    → Breaks t r w
    → ShowsWord t r (satisfiable_document (problem_of t r) (ordered_run (word_of (names_of t) w)) 0)
shows t r w breaks =
    let loops = word_loops t r w breaks in
    let long = length-map w.word (members (names_of t)) in
    record {
      shown = w;
      breaks = breaks;
      run = ordered_run (word_of (names_of t) w);
      is_structure = run_is_structure (word_of (names_of t) w) (omega (arith, loops, long));
      is_ordered = run_is_ordered (word_of (names_of t) w);
      is_run = run_is (word_of (names_of t) w);
      document_is = refl;
    }

some_found : (t : Task) (r : Outcome) (c : MachineVerdict) → IsChecked t r c → (x : MachineFinding) × Finds x t r
some_found t r checked.Holds is = (Holds, is)
some_found t r (checked.Fails w) is =
    (Fails (satisfiable_document (problem_of t r) (ordered_run (word_of (names_of t) w)) 0), (is.0, shows t r w is.1))
some_found t r checked.ClosureTooLarge is = (ClosureTooLarge, is)

-- ---- in a text

abbrev IsFoundOf : List ℕ → MachineFinding → Type 0
IsFoundOf text x = (t : Task) × (r : Outcome) × IsRealizeText text t r × Finds x t r

abbrev IsFoundBad : List ℕ → MachineFinding → Type 0
IsFoundBad text x = (fault : DocFault) × (x ≡ Unreadable fault) × IsRealizeFault text fault

found_in : (text : List ℕ) (x : MachineFinding) → IsFoundIn text x → IsFoundOf text x ⊎ IsFoundBad text x
found_in text (Unreadable fault) is = inr (fault, refl, is)
found_in text Holds is = inl is
found_in text (Fails d) is = inl is
found_in text ClosureTooLarge is = inl is

pub told : (text : List ℕ) (x : MachineFinding) (t : Task) (r : Outcome)
    → IsRealizeText text t r
    → Finds x t r
    → IsFoundIn text x
told text (Unreadable fault) t r is finds = absurd finds
told text Holds t r is finds = (t, r, is, finds)
told text (Fails d) t r is finds = (t, r, is, finds)
told text ClosureTooLarge t r is finds = (t, r, is, finds)

both_bad : (x y : MachineFinding) (e f : DocFault) → x ≡ Unreadable e → y ≡ Unreadable f → e ≡ f → AreAlike x y
both_bad x y e f a b same =
    subst (λ u. AreAlike u y) (sym a) (subst (AreAlike (Unreadable e)) (sym b) (ap Unreadable same))

pub one_finding : OneFinding
one_finding text x y a b = go (found_in text x a) (found_in text y b)
  where
    go : IsFoundOf text x ⊎ IsFoundBad text x → IsFoundOf text y ⊎ IsFoundBad text y → AreAlike x y
    go (inl (t, r, is, finds)) (inl (u, s, also, there)) =
        let same = one_reading text t u r s is also in
        one_found u s x y (subst (λ o. Finds x u o) same.1 (subst (λ v. Finds x v r) same.0 finds)) there
    go (inl (t, r, is, finds)) (inr (fault, bad_is, bad)) = absurd (texts.text_or_fault text t r fault is bad)
    go (inr (fault, bad_is, bad)) (inl (u, s, also, there)) = absurd (texts.text_or_fault text u s fault also bad)
    go (inr (e, first, bad)) (inr (f, second, worse)) = both_bad x y e f first second (texts.one_fault text e f bad worse)

pub some_finding : SomeFinding
some_finding text = go (texts.some_reading text)
  where
    by_check : (t : Task) (r : Outcome)
        → IsRealizeText text t r
        → (c : MachineVerdict) × IsChecked t r c
        → (x : MachineFinding) × IsFoundIn text x
    by_check t r is (c, checks) = let found = some_found t r c checks in (found.0, told text found.0 t r is found.1)

    go : ((t : Task) × (r : Outcome) × IsRealizeText text t r) ⊎ ((fault : DocFault) × IsRealizeFault text fault)
        → (x : MachineFinding) × IsFoundIn text x
    go (inl (t, r, is)) = by_check t r is (some_check t r is.is_task (fits_check t r is.fits))
    go (inr (fault, bad)) = (Unreadable fault, bad)
