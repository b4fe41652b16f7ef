-- Something comes of each answer of a document.
--
--   Comes P W         == something comes of what is shown where P is true and wrong where W is
--   structure_stands  == of a structure
--   refuted_stands    == of a refutation
--   parts_stand       == of the parts of a core
--   reply_stands      == of an answer
use Rattle.std.proofs.Common.{ℕ, ◌<◌, ◌≤◌, ◌⊎◌, Bool, List, [], ◌∷◌, inl, inr, arith}
use Rattle.std.proofs.lemmas.Bool.{cases_lt}
use Rattle.ml_base.specs.Structure.{Structure}
use Rattle.ml_front.proofs.Graphs.{graph_is}
use Rattle.ml_front.proofs.SomeGraph.{some_graph}
use Rattle.ml_front.specs.Connectives.{occurrences}
use Rattle.ml_front.specs.Graphs.{HasLargeClosure, IsGraphOf}
use Rattle.ml_front.specs.declared.logic.Logic.{Logic}
use Rattle.ml_front.specs.declared.problem.Problem.{Problem}
use Rattle.ml_front.specs.declared.problem.TheConstants.{MOST_NODES}
use Rattle.ml_graph.specs.Graph.{Graph}
use Rattle.ml_lists.proofs.Decided.{Decided}
use Rattle.ml_refutation.specs.Acceptance.{IsAccepted, IsFirstBad}
use Rattle.ml_refutation.specs.Refutation.{Refutation}
use Rattle.ml_refute_check.proofs.OneFault.{never_both}
use Rattle.ml_refute_check.proofs.SomeFault.{some_fault}
use Rattle.ml_spec.specs.Questions.{is_in, IsQuestion}
use Rattle.ml_spec.specs.Specification.{IsSpecified}
use Rattle.ml_spec.specs.declared.question.Question.{Question}
use Rattle.ml_spec.specs.declared.specification.Item.{Item}
use Rattle.ml_replies.proofs.OneCheck.{one_check, some_check}
use Rattle.ml_replies.specs.Meeting.{problem_of, without, AreWellFormed, IsHeld, IsSmall}
use Rattle.ml_replies.specs.Replies.{FailsByCheck, IsShown, MeetsAs, Part, Reply, LeftOpen, Met, StillMet, StillOpen, Unmet, Without}
use Rattle.ml_replies.specs.declared.outcome.Meets.{Meets}
use Rattle.ml_replies.specs.declared.outcome.Meets.TheVariants as meets
use Rattle.ml_answers.specs.Checked as checked
use Rattle.ml_answers.specs.Checked.{AreShown, IsNotRefuted, IsRefuted, IsShownBy, IsShownWithout, IsWrongWithout, SomeWrong}
use Rattle.ml_answers.specs.Documents.{ArePartsText, IsBody, IsModel, IsWithoutText}
use Rattle.ml_answers.specs.declared.judging.Standing.{Standing}
use Rattle.ml_answers.specs.declared.judging.Standing.TheVariants.{Shown, Unsettled, Wrong}
use Rattle.ml_answers.specs.private.Judged.{worse, ComesTo}
use Rattle.ml_answers.proofs.Judgments.{worse_both}
use Rattle.ml_answers.proofs.NeverWrong.{never_parts, never_refuted}

abbrev pub Comes : (P W : Type 0) → Type 0
Comes P W = (s : Standing) × ComesTo P W s

-- ---- refutations

at_most : (m n : ℕ) → Decided (m ≤ n)
at_most m n = by (cases_lt n m)
  where
    by : (n < m) ⊎ (m ≤ n) → Decided (m ≤ n)
    by (inl more) = inr (λ few. omega (arith, more, few))
    by (inr few) = inl few

held_or_not : (p : Problem) → Decided (IsHeld p)
held_or_not p = at_most (occurrences p.formula) _

pub refuted_stands : (p : Problem) (r : Refutation) → Comes (IsRefuted p r) (IsNotRefuted p r)
refuted_stands p r = by (held_or_not p) (some_graph MOST_NODES p.negated p.formula)
  where
    of_finding : IsHeld p → (g : Graph) → IsGraphOf g p → IsSmall p
        → IsAccepted g r ⊎ ((e : ℕ) × (k : ℕ) × (number : ℕ) × IsFirstBad g r e k number)
        → Comes (IsRefuted p r) (IsNotRefuted p r)
    of_finding held g is_graph small (inl accepted) = (
      Shown,
      record {
        is_held = held;
        is_small = small;
        is_accepted = record { graph = g; is_graph = is_graph; holds = accepted };
      },
    )
    of_finding held g is_graph small (inr (e, k, number, bad)) = (
      Wrong,
      record {
        is_held = held;
        is_small = small;
        is_rejected = record {
          graph = g;
          is_graph = is_graph;
          holds = λ accepted. never_both g r e k number accepted bad;
        };
      },
    )

    by : Decided (IsHeld p)
        → ((g : Graph) × IsGraphOf g p × IsSmall p) ⊎ HasLargeClosure p MOST_NODES
        → Comes (IsRefuted p r) (IsNotRefuted p r)
    by (inr long) made = (Unsettled, (λ is. long is.is_held, λ is. long is.is_held))
    by (inl held) (inr large) = (Unsettled, (λ is. is.is_small large, λ is. is.is_small large))
    by (inl held) (inl (g, is_graph, small)) =
        of_finding held g is_graph small (some_fault g r (graph_is g p.negated p.formula is_graph))

module _ (l : Logic) (xs : List Item) (q : Question) (specified : IsSpecified l xs) (well : AreWellFormed xs) (question : IsQuestion xs q) where
  -- ---- structures

  pub structure_stands : (S : ℕ → Bool) (m : Structure) (s : ℕ) (text : List ℕ)
      → IsModel m s text
      → Comes (IsShown l xs S q m s) (FailsByCheck l xs S q m s)
  structure_stands S m s text is =
      let found = some_check l xs S q m s specified well question is.0.is_structure is.0.is_state in by found.0 found.1
    where
      by : (r : Meets) → MeetsAs l xs S q m s r → Comes (IsShown l xs S q m s) (FailsByCheck l xs S q m s)
      by meets.Yes so = (Shown, so)
      by meets.No so = (Wrong, so)
      by meets.Unknown so = (Unsettled, so)

  -- ---- parts

  without_stands : (S : ℕ → Bool) (n : ℕ) (w : Without) (text : List ℕ)
      → IsWithoutText xs n w text
      → Comes (IsShownWithout l xs S q w) (IsWrongWithout l xs S q w)
  without_stands S n (StillMet m s) text is = structure_stands S m s is.second is.is_second
  without_stands S n StillOpen text is = (Unsettled, (λ no_such. no_such, λ no_such. no_such))

  abbrev ShownPart : (ℕ → Bool) → Part → Type 0
  ShownPart S p = IsShownWithout l xs (without S p.requirement) q p.without

  abbrev WrongPart : (ℕ → Bool) → Part → Type 0
  WrongPart S p = IsWrongWithout l xs (without S p.requirement) q p.without

  never_part : (S : ℕ → Bool) (p : Part) → ShownPart S p → WrongPart S p → ⊥
  never_part S p shown fails = never_parts one_check l xs q specified question S (p ∷ []) (shown, tt) (inl fails)

  pub parts_stand : (S : ℕ → Bool) (ps : List Part) (text : List ℕ)
      → ArePartsText xs ps text
      → Comes (AreShown l xs S q ps) (SomeWrong l xs S q ps)
  parts_stand S [] text is = (Shown, tt)
  parts_stand S (p ∷ ps) text is =
      let here = without_stands (without S p.requirement) p.requirement p.without is.first is.is_first in
      let rest = parts_stand S ps is.second is.is_second in (
        worse here.0 rest.0,
        worse_both (ShownPart S p) (AreShown l xs S q ps) (WrongPart S p) (SomeWrong l xs S q ps) here.0 rest.0
            (never_part S p) (never_parts one_check l xs q specified question S ps) here.1 rest.1,
      )

  -- ---- answers

  pub reply_stands : (S : ℕ → Bool) (r : Reply) (text : List ℕ)
      → IsBody xs r text
      → Comes (IsShownBy l xs S q r) (checked.IsWrong l xs S q r)
  reply_stands S (Met m s) text is = structure_stands S m s text is
  reply_stands S (Unmet c) text is =
      let T = is_in c.taken in
      let p = problem_of l xs T q in
      let refuted = refuted_stands p c.refutation in
      let parts = parts_stand T c.parts is.second is.is_second in (
        worse refuted.0 parts.0,
        worse_both (IsRefuted p c.refutation) (AreShown l xs T q c.parts) (IsNotRefuted p c.refutation)
            (SomeWrong l xs T q c.parts) refuted.0 parts.0 (never_refuted p c.refutation)
            (never_parts one_check l xs q specified question T c.parts) refuted.1 parts.1,
      )
  reply_stands S LeftOpen text is = (Unsettled, (λ no_such. no_such, λ no_such. no_such))
