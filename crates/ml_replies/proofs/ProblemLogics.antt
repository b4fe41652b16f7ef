-- The problems of requirements and a question are of the logic.
--
--   not_ltl      == a logic that is one of the others isn't LTL of paths
--   all_admitted == so a structure of which the logic speaks is admitted by each
use Rattle.std.proofs.Common.{◌≡◌, ◌≢◌, ◌⊎◌, inl, inr, ℕ, Bool, List, [], ◌∷◌, Option, Some, None, slice_get, map, sym, subst, ◌∙◌}
use Rattle.std.specs.List.{AllByRecursion}
use Rattle.ml_lists.proofs.AllOf.{all_both}
use Rattle.ml_base.specs.Structure.{Structure}
use Rattle.ml_front.specs.Connectives.{AreOf}
use Rattle.ml_front.specs.Logics.{logic_of}
use Rattle.ml_front.specs.Problems.{IsAdmitted}
use Rattle.ml_front.specs.declared.logic.Logic.{Logic}
use Rattle.ml_front.specs.declared.logic.Logic.TheVariants as logic
use Rattle.ml_front.specs.declared.problem.AnyFormula.{AnyFormula}
use Rattle.ml_front.specs.declared.problem.Problem.{Problem}
use Rattle.ml_spec.specs.Joined.{requirements}
use Rattle.ml_spec.specs.Questions.{asked_by, asked_by_item, chosen, IsQuestion}
use Rattle.ml_spec.specs.Specification.{IsSpecified}
use Rattle.ml_spec.specs.declared.question.Question.{Question}
use Rattle.ml_spec.specs.declared.question.Question.TheVariants as question
use Rattle.ml_spec.specs.declared.specification.Item.{Item}
use Rattle.ml_spec.proofs.JoinedSizes.{asked_logic}
use Rattle.ml_replies.specs.Meeting.{plain, problems_asked, problems_by_item, problems_of}
use Rattle.ml_replies.proofs.Chosen.{asked_in}

abbrev pub IsAdmittedBy : Structure → Problem → Type 0
IsAdmittedBy m p = IsAdmitted (logic_of p.formula) m

module _ (l : Logic) (m : Structure) (ok : IsAdmitted l m) where
  all_plain : (fs : List AnyFormula) → AreOf l fs → AllByRecursion (IsAdmittedBy m) (map plain fs)
  all_plain [] are = tt
  all_plain (f ∷ fs) are = (subst (λ k. IsAdmitted k m) (sym are.0) ok, all_plain fs are.1)

  by_item : (o : Option Item) → AreOf l (asked_by_item o) → AllByRecursion (IsAdmittedBy m) (problems_by_item o)
  by_item None are = tt
  by_item (Some x) are =
      (subst (λ k. IsAdmitted k m) (sym (sym (asked_logic x.kind x.formula) ∙ are.0)) ok, tt)

  by_question : (xs : List Item) (q : Question) → AreOf l (asked_by xs q) → AllByRecursion (IsAdmittedBy m) (problems_asked xs q)
  by_question xs question.Consistent are = tt
  by_question xs question.Rest are = tt
  by_question xs (question.Asks n) are = by_item (slice_get xs n) are

pub all_admitted : (l : Logic) (xs : List Item) (S : ℕ → Bool) (q : Question) (m : Structure)
    → IsSpecified l xs
    → IsQuestion xs q
    → IsAdmitted l m
    → AllByRecursion (IsAdmittedBy m) (problems_of xs S q)
all_admitted l xs S q m specified is ok =
    let are = asked_in l S xs specified q is in
    all_both (IsAdmittedBy m) (problems_asked xs q) (map plain (requirements (chosen S xs))) (by_question l m ok xs q are.1)
    (all_plain l m ok (requirements (chosen S xs)) are.0)

pub not_ltl : (l : Logic)
    → (l ≡ logic.Mu) ⊎ ((l ≡ logic.Pdl) ⊎ ((l ≡ logic.Ctl) ⊎ (l ≡ logic.Word)))
    → l ≢ logic.Ltl
not_ltl l (inl a) e = let wrong : logic.Mu ≡ logic.Ltl = sym a ∙ e in absurd (cc)
not_ltl l (inr (inl a)) e = let wrong : logic.Pdl ≡ logic.Ltl = sym a ∙ e in absurd (cc)
not_ltl l (inr (inr (inl a))) e = let wrong : logic.Ctl ≡ logic.Ltl = sym a ∙ e in absurd (cc)
not_ltl l (inr (inr (inr a))) e = let wrong : logic.Word ≡ logic.Ltl = sym a ∙ e in absurd (cc)
