-- The graph of a problem of LTL, or of LTL on words, holds where the problem does.
--
--   HoldsAs g b f   == on each admitted structure g holds at the states at which the formula f does, in the sense b
--   linear_agrees, word_agrees == so it is of what is made of a formula of LTL, and on words
use Rattle.std.proofs.Common.{◌≡◌, ◌<◌, ◌↔◌, ℕ, Bool, Result, Ok, Err, IfOk, sym, subst}
use Rattle.ml_base.specs.Structure.{Structure}
use Rattle.ml_blocks.specs.Agreement as blocks
use Rattle.ml_ctl.specs.Formula.{Formula}
use Rattle.ml_graph.specs.CheckingGame.{Holds}
use Rattle.ml_graph.specs.Graph.{Graph}
use Rattle.ml_ltl.specs.Problem as ltl
use Rattle.ml_word_graph.specs.Laws as word
use Rattle.ml_front.specs.Laws.{HoldsWhere}
use Rattle.ml_front.specs.Logics.{logic_of}
use Rattle.ml_front.specs.Problems as problems
use Rattle.ml_front.specs.Problems.{IsAdmitted}
use Rattle.ml_front.specs.declared.problem.AnyFormula.{AnyFormula}
use Rattle.ml_front.specs.declared.problem.AnyFormula.TheVariants.{Ltl, Word}
use Rattle.ml_front.specs.declared.problem.Problem.{Problem}

abbrev HoldsAs : Graph → Bool → AnyFormula → Type 0
HoldsAs g negated f =
    (m : Structure) → IsAdmitted (logic_of f) m → (s : ℕ) → s < m.states → Holds g m s ↔ problems.HoldsAs m s negated f

pub linear_agrees : {E : Type 0} (p : Problem) (f : Formula) (r : Result Graph E)
    → p.formula ≡ Ltl f
    → IfOk r (λ g. blocks.HoldsWhere g (λ m s. ltl.HoldsAt m s f p.negated))
    → IfOk r (λ g. HoldsWhere g p)
linear_agrees p f (Ok g) is agrees = subst (HoldsAs g p.negated) (sym is) agrees
linear_agrees p f (Err e) is agrees = tt

pub word_agrees : (p : Problem) (f : Formula) (g : Graph)
    → p.formula ≡ Word f
    → word.HoldsWhere g f p.negated
    → HoldsWhere g p
word_agrees p f g is agrees = subst (HoldsAs g p.negated) (sym is) agrees
