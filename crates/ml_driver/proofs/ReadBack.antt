-- What answers a question, the checkers read.
--
--   satisfied_read  == the document with a structure is one of which `check-model` answers that its problem holds
--   decided_are_checked == the law
--   refuted_are_accepted == the document with a refutation is one that `check-refutation` accepts
--   decide_is_checked, valid_is_checked, find_is_checked, prove_is_checked == the laws on the commands
use Rattle.std.proofs.Common.{◌≢◌, ℕ, Bool, true, false, List, if◌then◌else◌, inl, refl, sym, ap, subst, arith}
use Rattle.ml_base.specs.declared.version.Version.TheVariants.{Two}
use Rattle.ml_model_check.specs.Checked.{IsCheckedAs, IsDocument}
use Rattle.ml_model_check.specs.declared.checked.Checked.TheVariants.{Holds}
use Rattle.ml_model_check.proofs.ReadBack.{documents_read_back}
use Rattle.ml_front.specs.declared.logic.Logic.{Logic}
use Rattle.ml_driver.specs.Decision.{IsAnswered, Refuted, Satisfied, if_open, if_refused, if_refuted, if_satisfied}
use Rattle.ml_driver.specs.Codes.{code_of}
use Rattle.ml_driver.specs.declared.command.Command.TheVariants.{Decide, Valid, Find, Prove}
use Rattle.ml_driver.specs.declared.status.Status.TheVariants.{Yes, No, Text}
use Rattle.ml_driver.proofs.InputLimits.{answer_due}
use Rattle.ml_driver.specs.declared.question.Question.{Question}
use Rattle.ml_decide.specs.declared.way.Way.{Way}
use Rattle.ml_decide.specs.declared.way.Way.TheVariants.{WholeGame, Search}
use Rattle.ml_driver.specs.Laws.{DecidedAreChecked, DecideIsChecked, FindIsChecked, IsFoundAccepted, IsFoundToHold, ProveIsChecked, RefutedAreAccepted, ValidIsChecked}
use Rattle.ml_driver.specs.Run.{asked, IsWhole}
use Rattle.ml_refute_check.specs.Documents.{Finds, HoldsNowhere, IsDocument as IsDocumentWith}
use Rattle.ml_refute_check.proofs.Accepted as refuted
use Rattle.ml_refute_check.specs.declared.verdict.Verdict.TheVariants.{Accepted}
use Rattle.ml_decide.proofs.Closed.{closure_fits}
use Rattle.ml_front.proofs.Logics.{parsed_well}

satisfied_read : (q : Question) (text out : List ℕ) → Satisfied q text out → IsCheckedAs out Holds
satisfied_read q text out x =
    let p = x.problem in
    let m = x.structure in
    let well = parsed_well text p.formula x.is_problem.is_parsed in
    let shown : IsDocument out p m x.start =
    subst (λ t. IsDocument t p m x.start) (sym x.is_written)
    (documents_read_back Two p m x.start well x.can_be_written x.is_ordered) in
    (p, m, x.start, shown, (x.is_admitted, closure_fits q.way q.limit x.problem x.is_closed, x.holds))

pub decided_are_checked : DecidedAreChecked
decided_are_checked q text out x = satisfied_read q text out x

-- the document with a refutation shows it
refutation_shown : (q : Question) (text out : List ℕ) (x : Refuted q text out)
    → IsDocumentWith out Two x.problem x.refutation
refutation_shown q text out x =
    refuted.documents_read_back x.problem x.refutation out
    (parsed_well text x.problem.formula x.is_problem.is_parsed) x.is_refutation x.is_written

pub refuted_are_accepted : RefutedAreAccepted
refuted_are_accepted q text out x =
    let shown = refutation_shown q text out x in
    let found : Finds Accepted Two shown.0 x.problem x.refutation = (
      closure_fits q.way q.limit x.problem x.is_closed,
      record { graph = x.graph; is_graph = x.is_graph; holds = x.is_accepted },
    ) in
    record {
      version = Two;
      problem = x.problem;
      body = shown.0;
      has_head = shown.1;
      holds = (x.refutation, shown.2, shown.3, found);
    }

-- ---- what the commands answer

found_to_hold : (q : Question) (text out : List ℕ) → IsWhole out → Satisfied q text out → IsFoundToHold out
found_to_hold q text out whole x =
    inl (whole, record { finding = Holds; is_found = satisfied_read q text out x; is_said = (refl, refl) })

found_accepted : (q : Question) (text out : List ℕ) → IsWhole out → Refuted q text out → IsFoundAccepted out
found_accepted q text out whole x =
    let shown = refutation_shown q text out x in
    let is_true : HoldsNowhere out = record {
      version = Two;
      problem = x.problem;
      body = shown.0;
      has_head = shown.1;
      holds = x.is_unsatisfiable;
    } in
    inl (
      whole,
      record {
        finding = Accepted;
        is_found = refuted_are_accepted q text out x;
        is_true = λ accepted. is_true;
        is_said = (refl, refl);
      },
    )

module _ (w : Way) (l : Logic) (n : ℕ) (text out : List ℕ) (whole : IsWhole out) where
  held : (b : Bool) → IsAnswered (asked b w l n) text (if b then No else Yes) out → IsFoundToHold out
  held b (if_satisfied is x) = found_to_hold (asked b w l n) text out whole x
  held false (if_refuted is x) = absurd (omega (arith, ap code_of is))
  held false (if_open is x) = absurd (omega (arith, ap code_of is))
  held false (if_refused is x) = absurd (omega (arith, ap code_of is))
  held true (if_refuted is x) = absurd (omega (arith, ap code_of is))
  held true (if_open is x) = absurd (omega (arith, ap code_of is))
  held true (if_refused is x) = absurd (omega (arith, ap code_of is))

  excluded : (b : Bool) → IsAnswered (asked b w l n) text (if b then Yes else No) out → IsFoundAccepted out
  excluded b (if_refuted is x) = found_accepted (asked b w l n) text out whole x
  excluded false (if_satisfied is x) = absurd (omega (arith, ap code_of is))
  excluded false (if_open is x) = absurd (omega (arith, ap code_of is))
  excluded false (if_refused is x) = absurd (omega (arith, ap code_of is))
  excluded true (if_satisfied is x) = absurd (omega (arith, ap code_of is))
  excluded true (if_open is x) = absurd (omega (arith, ap code_of is))
  excluded true (if_refused is x) = absurd (omega (arith, ap code_of is))

yes_kept : Yes ≢ Text
yes_kept is = omega (arith, ap code_of is)

no_kept : No ≢ Text
no_kept is = omega (arith, ap code_of is)

pub decide_is_checked : DecideIsChecked
decide_is_checked l n text out whole = (
  λ due. held WholeGame l n text out whole false (answer_due (Decide l n) text Yes out yes_kept due),
  λ due. excluded WholeGame l n text out whole false (answer_due (Decide l n) text No out no_kept due),
)

pub valid_is_checked : ValidIsChecked
valid_is_checked l n text out whole = (
  λ due. held WholeGame l n text out whole true (answer_due (Valid l n) text No out no_kept due),
  λ due. excluded WholeGame l n text out whole true (answer_due (Valid l n) text Yes out yes_kept due),
)

pub find_is_checked : FindIsChecked
find_is_checked l n text out whole = (
  λ due. held Search l n text out whole false (answer_due (Find l n) text Yes out yes_kept due),
  λ due. excluded Search l n text out whole false (answer_due (Find l n) text No out no_kept due),
)

pub prove_is_checked : ProveIsChecked
prove_is_checked l n text out whole = (
  λ due. held Search l n text out whole true (answer_due (Prove l n) text No out no_kept due),
  λ due. excluded Search l n text out whole true (answer_due (Prove l n) text Yes out yes_kept due),
)
