-- What the truth at the first place of the path says of the problem.
--
--   found_at == the problem holds at the state exactly where its formula's truth there isn't its sense
use Rattle.std.proofs.Common.{ℕ, ◌≡◌, ◌<◌, ◌↔◌, Bool, true, false, not, refl, sym, ◌∙◌}
use Rattle.std.specs.Bool.{IsTrue, beq}
use Rattle.std.proofs.lemmas.Bool.{false≢true}
use Rattle.ml_base.specs.Structure.{Structure}
use Rattle.ml_lists.specs.Lasso.{Lasso}
use Rattle.ml_ctl.specs.Formula.{Formula}
use Rattle.ml_ctl.specs.Sorts.{is_linear}
use Rattle.ml_ctl.specs.Meaning.{Satisfies}
use Rattle.ml_word_graph.specs.Problem.{HoldsAt, IsAdmitted, IsWordFrom}
use Rattle.ml_word_graph.proofs.Complement.{here_says}
use Rattle.ml_word_graph.proofs.StateValues.{value}
use Rattle.ml_word_graph.proofs.Values.{Says, equal_values, says_truth, truth}

module _ (f : Formula) (linear : is_linear f ≡ true) (m : Structure) (ok : IsAdmitted m) (s : ℕ) (low : s < m.states)
    (l : Lasso) (w : IsWordFrom m s l) where
  -- the truth on one word is that on each
  on_each : (k : Lasso) → IsWordFrom m s k → Says (Satisfies m k f) (truth m l f 0)
  on_each k v =
      let same : truth m l f 0 ≡ value m ok f s =
      equal_values (truth m l f 0) (value m ok f s) ((λ x. x), (λ x. x)) (says_truth m l f linear 0)
      (here_says f linear m ok s low l w) in
      let says = here_says f linear m ok s low k v in
      ((λ x. same ∙ says.0 x), (λ e. says.1 (sym same ∙ e)))

  pub found_at : (negated b : Bool) → truth m l f 0 ≡ b
      → IsTrue (not (beq b negated)) ↔ HoldsAt m s f negated
  found_at false true is = ((λ differ. (l, w, (on_each l w).1 is)), (λ holds. refl))
  found_at false false is =
      ((λ differ. absurd (false≢true differ)), (λ holds. sym is ∙ (on_each holds.0 holds.1).0 holds.2))
  found_at true true is =
      ((λ differ. absurd (false≢true differ)), (λ holds. absurd (holds.2 ((on_each holds.0 holds.1).1 is))))
  found_at true false is =
      ((λ differ. (l, w, λ holds. false≢true (sym is ∙ (on_each l w).0 holds))), (λ holds. refl))
