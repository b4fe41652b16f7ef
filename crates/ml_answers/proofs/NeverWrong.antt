-- Nothing is both shown and wrong.
--
--   never_fails     == a structure
--   never_refuted   == a refutation
--   never_parts     == the parts of a core
--   never_both      == an answer
use Rattle.std.proofs.Common.{ℕ, Bool, List, [], ◌∷◌, inl, inr}
use Rattle.ml_base.specs.Structure.{Structure}
use Rattle.ml_front.proofs.Graphs.{graphs_alike}
use Rattle.ml_front.specs.declared.logic.Logic.{Logic}
use Rattle.ml_front.specs.declared.problem.Problem.{Problem}
use Rattle.ml_refutation.specs.Refutation.{Refutation}
use Rattle.ml_refute_check.proofs.AlikeGraphs.{accepted_same}
use Rattle.ml_spec.specs.Questions.{is_in, IsQuestion}
use Rattle.ml_spec.specs.Specification.{IsSpecified}
use Rattle.ml_spec.specs.declared.question.Question.{Question}
use Rattle.ml_spec.specs.declared.specification.Item.{Item}
use Rattle.ml_replies.specs.Laws.{OneCheck}
use Rattle.ml_replies.specs.Meeting.{problem_of, without}
use Rattle.ml_replies.specs.Replies.{FailsByCheck, IsShown, Part, Reply, LeftOpen, Met, StillMet, StillOpen, Unmet, Without}
use Rattle.ml_replies.specs.declared.outcome.Meets.TheVariants as meets
use Rattle.ml_answers.specs.Checked as checked
use Rattle.ml_answers.specs.Checked.{AreShown, IsNotRefuted, IsRefuted, IsShownBy, IsShownWithout, IsWrongWithout, SomeWrong}

pub never_refuted : (p : Problem) (r : Refutation) → IsRefuted p r → IsNotRefuted p r → ⊥
never_refuted p r is ne =
    let g = is.is_accepted in
    let h = ne.is_rejected in
    h.holds (accepted_same g.graph h.graph (graphs_alike p g.graph h.graph g.is_graph h.is_graph) r g.holds)

module _ (one : OneCheck) (l : Logic) (xs : List Item) (q : Question) (specified : IsSpecified l xs) (question : IsQuestion xs q) where
  pub never_fails : (S : ℕ → Bool) (m : Structure) (s : ℕ) → IsShown l xs S q m s → FailsByCheck l xs S q m s → ⊥
  never_fails S m s shown fails =
      let same = one l xs S q m s meets.Yes meets.No specified question shown fails in absurd cc

  never_without : (S : ℕ → Bool) (w : Without) → IsShownWithout l xs S q w → IsWrongWithout l xs S q w → ⊥
  never_without S (StillMet m s) shown fails = never_fails S m s shown fails
  never_without S StillOpen shown fails = shown

  pub never_parts : (S : ℕ → Bool) (ps : List Part) → AreShown l xs S q ps → SomeWrong l xs S q ps → ⊥
  never_parts S [] shown fails = fails
  never_parts S (p ∷ ps) shown (inl fails) = never_without (without S p.requirement) p.without shown.0 fails
  never_parts S (p ∷ ps) shown (inr fails) = never_parts S ps shown.1 fails

  pub never_both : (S : ℕ → Bool) (r : Reply) → IsShownBy l xs S q r → checked.IsWrong l xs S q r → ⊥
  never_both S (Met m s) shown fails = never_fails S m s shown fails
  never_both S (Unmet c) shown (inl ne) = never_refuted (problem_of l xs (is_in c.taken) q) c.refutation shown.0 ne
  never_both S (Unmet c) shown (inr fails) = never_parts (is_in c.taken) c.parts shown.1 fails
  never_both S LeftOpen shown fails = shown
