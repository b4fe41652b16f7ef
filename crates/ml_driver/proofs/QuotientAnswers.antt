-- What is due for `quotient`: exactly one status with exactly one output, which says of the problem what was said before.
--
--   one_quotient_answer == one status is the answer at most, with one output
--   one_quotient_due   == one status is due at most, and one output
--   on_structure       == some status is due, with some output
--   named_quotient     == the names of a quotient are those of the structure
--   quotients_are_read == what is written is read as a document of the same problem
--   written_holds_the_same == it holds at the start exactly where it held
--   carried            == so checking finds the same
--   quotients_are_checked_alike == and `check-model` answers the same
use Rattle.std.proofs.Common.{◌≡◌, ℕ, ◌<◌, ◌⊎◌, ◌↔◌, List, [], All, Contains, Some, inl, inr, refl, sym, ap, subst, ◌∙◌, arith}
use Rattle.std.proofs.lemmas.List.Elements.{All-contains, All-from_get_or}
use Rattle.ml_base.specs.Name.{IsName, IsAction}
use Rattle.ml_base.specs.Structure.{Structure, IsStructure}
use Rattle.ml_base.specs.declared.structure.Edge.{Edge}
use Rattle.ml_base.specs.declared.version.Version.TheVariants.{Two}
use Rattle.ml_lists.proofs.Member.{member-All}
use Rattle.ml_lists.proofs.Members.{contains_of_member}
use Rattle.ml_kripke.specs.ModelText.{IsWritten}
use Rattle.ml_kripke.specs.Ordered.{HasNames}
use Rattle.ml_bisim.specs.Quotient.{IsQuotientOf, SomeEdge, class_of}
use Rattle.ml_bisim.proofs.Classes.{class_low, some_state}
use Rattle.ml_bisim.proofs.Labels.{listed, row}
use Rattle.ml_bisim.proofs.Merged.{few_classes}
use Rattle.ml_bisim.proofs.OneQuotient.{one_quotient}
use Rattle.ml_bisim_problems.proofs.Carried.{admitted_kept, problems_carried}
use Rattle.ml_front.specs.Logics.{IsWellFormed, logic_of}
use Rattle.ml_front.specs.Problems.{HoldsAt, IsAdmitted}
use Rattle.ml_front.specs.declared.problem.Problem.{Problem}
use Rattle.ml_front.proofs.Graphs.{meaningful, never_both}
use Rattle.ml_front.proofs.Logics.{parsed_well}
use Rattle.ml_model_check.specs.Checked.{Finds, IsCheckedAs, IsDocument}
use Rattle.ml_model_check.specs.declared.checked.Checked.{Checked}
use Rattle.ml_model_check.specs.declared.checked.Checked.TheVariants as checked
use Rattle.ml_model_check.proofs.Findings.{IsFault, IsFoundIn}
use Rattle.ml_model_check.proofs.OneCheck.{SomeDocument, SomeFault, document_fault, document_or_fault, one_document, one_fault}
use Rattle.ml_model_check.proofs.ReadBack.{documents_read_back}
use Rattle.ml_model_check.specs.WrittenDocument.{satisfiable_document}
use Rattle.ml_driver.specs.Laws.{OneQuotientDue, QuotientsAreCheckedAlike, QuotientsAreRead, WrittenHoldsTheSame}
use Rattle.ml_driver.specs.Quotients.{IsReduced}
use Rattle.ml_driver.specs.Run.{IsAnswer, IsDue, IsWhole}
use Rattle.ml_driver.specs.Said.{said_text}
use Rattle.ml_driver.specs.Statuses.{IsUnreadable}
use Rattle.ml_driver.specs.declared.said.Said.TheVariants.{RefusedDocument}
use Rattle.ml_driver.specs.declared.command.Command.TheVariants.{CheckModel, Quotient}
use Rattle.ml_driver.specs.declared.status.Status.{Status}
use Rattle.ml_driver.specs.declared.status.Status.TheVariants.{Yes, Text}
use Rattle.ml_driver.proofs.InputLimits.{SomeAnswer, alike_due}
use Rattle.ml_driver.proofs.SomeQuotient.{some_quotient}

-- ---- one status, one output

read_or_refused : (text out more : List ℕ) → IsReduced text out → IsUnreadable (IsFault text) more → ⊥
read_or_refused text out more x r =
    document_fault text x.problem x.structure x.start r.fault x.is_document r.is_fault

one_line : (text out more : List ℕ) (r : IsUnreadable (IsFault text) out)
    (w : IsUnreadable (IsFault text) more) → out ≡ more
one_line text out more r w =
    r.is_written ∙ ap (λ f. said_text (RefusedDocument f)) (one_fault text r.fault w.fault r.is_fault w.is_fault) ∙ sym w.is_written

one_reduced : (text out more : List ℕ) → IsReduced text out → IsReduced text more → out ≡ more
one_reduced text out more x y =
    let same =
    one_document text y.problem x.problem y.structure x.structure y.start x.start y.is_document x.is_document in
    let other = subst (λ m. IsQuotientOf m y.class y.quotient) same.1.0 y.is_quotient in
    let one = one_quotient x.structure x.quotient y.quotient x.class y.class x.is_quotient other in
    let start = ap (class_of x.class) (sym same.1.1) ∙ ap (λ c. class_of c y.start) one.0 in
    x.is_written
    ∙ ap (λ p. satisfiable_document p x.quotient (class_of x.class x.start)) (sym same.0)
    ∙ ap (λ q. satisfiable_document y.problem q (class_of x.class x.start)) one.1
    ∙ ap (satisfiable_document y.problem y.quotient) start
    ∙ sym y.is_written

pub one_quotient_answer : (text : List ℕ) (s t : Status) (out more : List ℕ)
    → IsAnswer Quotient text s out
    → IsAnswer Quotient text t more
    → (s ≡ t) × (out ≡ more)
one_quotient_answer text Yes Yes out more x y = (refl, one_reduced text out more x y)
one_quotient_answer text Yes Text out more x y = absurd (read_or_refused text out more x y)
one_quotient_answer text Text Yes out more x y = absurd (read_or_refused text more out y x)
one_quotient_answer text Text Text out more x y = (refl, one_line text out more x y)
one_quotient_answer text Yes _ out more x y = absurd y
one_quotient_answer text Text _ out more x y = absurd y
one_quotient_answer text _ t out more x y = absurd x

pub one_quotient_due : OneQuotientDue
one_quotient_due text s t out more x y =
    alike_due Quotient text s t out more ((s ≡ t) × (out ≡ more)) (λ same line. (same, line))
    (one_quotient_answer text s t out more) x y

-- ---- some status

of_document : (text : List ℕ) (p : Problem) (m : Structure) (start : ℕ) → IsDocument text p m start
    → SomeAnswer Quotient text
of_document text p m start is =
    let q = some_quotient m is.2.is_structure in (
      Yes,
      (
        satisfiable_document p q.structure (class_of q.class start),
        record {
          problem = p;
          structure = m;
          start = start;
          quotient = q.structure;
          class = q.class;
          is_document = is;
          is_quotient = q.is_quotient;
          is_written = refl;
        },
      ),
    )

pub on_structure : (text : List ℕ) → SomeAnswer Quotient text
on_structure text = by_reading (document_or_fault text)
  where
    by_reading : SomeDocument text ⊎ SomeFault text → SomeAnswer Quotient text
    by_reading (inl (p, m, s, is)) = of_document text p m s is
    by_reading (inr (fault, found)) =
        (Text, (said_text (RefusedDocument fault), record { fault = fault; is_fault = found; is_written = refl }))

-- ---- names

module _ (m q : Structure) (class : List ℕ) (ok : IsStructure m) (names : HasNames m) (x : IsQuotientOf m class q) where
  label_named : (c : ℕ) → c < q.states → (p : List ℕ) → Contains (row q c) p → IsName p
  label_named c low p h =
      let s = some_state m q class ok x c low in
      let there = subst (λ d. Contains (row q d) p) (sym s.2) h in
      let here = (listed m s.0 p).0 (sym (x.labels s.0 s.1 p) ∙ (listed q (class_of class s.0) p).1 there) in
      All-contains IsName (row m s.0) p (names.labels_named s.0 [] (omega (arith, s.1, ok.labels_states))) here

  action_named : (e : Edge) → Contains q.edges e → IsAction e.action
  action_named e h = of_some ((x.edges e.source e.action e.target).0 h)
    where
      of_some : SomeEdge m class e.source e.action e.target → IsAction e.action
      of_some some =
          All-contains (λ (f : Edge). IsAction f.action) m.edges
          (record { source = some.0; action = e.action; target = some.1 }) names.actions_named some.2

  named_quotient : HasNames q
  named_quotient = record {
    labels_named =
        All-from_get_or (All IsName) q.labels [] (λ c low.
        member-All IsName (row q c) (λ p h.
        label_named c (omega (arith, low, x.is_structure.labels_states)) p (contains_of_member p (row q c) h)));
    actions_named = member-All (λ (e : Edge). IsAction e.action) q.edges (λ e h. action_named e (contains_of_member e q.edges h));
  }

-- ---- what is written

module _ (text out : List ℕ) (x : IsReduced text out) where
  is_well : IsWellFormed x.problem.formula
  is_well = let h = x.is_document.1 in parsed_well h.formula_text x.problem.formula h.is_parsed

  can_be_written : IsWritten x.quotient (class_of x.class x.start)
  can_be_written =
      let old = x.is_document.2 in
      let few = few_classes x.structure x.quotient.states x.class x.is_quotient.classes in
      record {
        is_structure = x.is_quotient.is_structure;
        has_names =
            named_quotient x.structure x.quotient x.class old.is_structure old.has_names x.is_quotient;
        fits = omega (arith, few, old.fits);
        is_state = class_low x.structure x.quotient x.class old.is_structure x.is_quotient x.start old.is_state;
      }

  read_back : IsDocument out x.problem x.quotient (class_of x.class x.start)
  read_back =
      subst (λ t. IsDocument t x.problem x.quotient (class_of x.class x.start)) (sym x.is_written)
      (documents_read_back Two x.problem x.quotient (class_of x.class x.start) is_well can_be_written
      x.is_quotient.is_ordered)

  module _ (speaks : IsAdmitted (logic_of x.problem.formula) x.structure) where
    speaks_too : IsAdmitted (logic_of x.problem.formula) x.quotient
    speaks_too =
        admitted_kept x.structure x.quotient x.class x.is_document.2.is_structure x.is_quotient
        (logic_of x.problem.formula) speaks

    same_there : HoldsAt x.structure x.start x.problem ↔ HoldsAt x.quotient (class_of x.class x.start) x.problem
    same_there =
        problems_carried x.structure x.quotient x.class x.is_quotient x.problem
        (meaningful x.problem.formula is_well) speaks x.start x.is_document.2.is_state

    -- what checking finds of the document
    found : (c : Checked) → Finds c x.problem x.structure x.start
        → Finds c x.problem x.quotient (class_of x.class x.start)
    found checked.Holds f = (speaks_too, f.1, same_there.0 f.2)
    found checked.Fails f = (speaks_too, f.1, λ holds. f.2 (same_there.1 holds))
    found checked.ClosureTooLarge f = (speaks_too, f.1)
    found (checked.NotTotal state) f = absurd (never_both (logic_of x.problem.formula) x.structure state speaks (inl f))
    found (checked.NotAWord state) f = absurd (never_both (logic_of x.problem.formula) x.structure state speaks (inr f))
    found (checked.Unreadable fault) f = absurd f

    finds_here : (c : Checked) → IsFoundIn text c → Finds c x.problem x.structure x.start
    finds_here c (p, m, start, is, finds) =
        let same = one_document text p x.problem m x.structure start x.start is x.is_document in
        subst (λ s. Finds c x.problem x.structure s) same.1.1
        (subst (λ n. Finds c x.problem n start) same.1.0 (subst (λ q. Finds c q m start) same.0 finds))

    carried : (c : Checked) → IsFoundIn text c → IsFoundIn out c
    carried c shows = (x.problem, x.quotient, class_of x.class x.start, read_back, found c (finds_here c shows))

    carried_as : (c : Checked) → IsCheckedAs text c → IsCheckedAs out c
    carried_as (checked.Unreadable fault) is =
        absurd (document_fault text x.problem x.structure x.start fault x.is_document is)
    carried_as checked.Holds shows = carried checked.Holds shows
    carried_as checked.Fails shows = carried checked.Fails shows
    carried_as checked.ClosureTooLarge shows = carried checked.ClosureTooLarge shows
    carried_as (checked.NotTotal state) shows = carried (checked.NotTotal state) shows
    carried_as (checked.NotAWord state) shows = carried (checked.NotAWord state) shows

    alike : IsWhole text → IsWhole out → (s : Status) (line : List ℕ)
        → IsDue (Some CheckModel) text s line
        → IsDue (Some CheckModel) out s line
    alike short whole s line (inl (within, y)) =
        inl (whole, record { finding = y.finding; is_found = carried_as y.finding y.is_found; is_said = y.is_said })
    alike short whole s line (inr y) = absurd (y.0 short)

pub quotients_are_read : QuotientsAreRead
quotients_are_read text out x = read_back text out x

pub written_holds_the_same : WrittenHoldsTheSame
written_holds_the_same text out x speaks = (speaks_too text out x speaks, same_there text out x speaks)

pub quotients_are_checked_alike : QuotientsAreCheckedAlike
quotients_are_checked_alike text out x speaks short whole s line due = alike text out x speaks short whole s line due
