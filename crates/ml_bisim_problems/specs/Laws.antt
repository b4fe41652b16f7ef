-- Problems and the quotient of a structure.
--
--   AlikeAreBisimilar == two states are bisimilar, or some formula of modal logic tells them apart
--   NoneSmaller       == a structure in which each formula of modal logic says what it said before has at least as many
--                        states as the quotient
--   AdmittedKept    == where a logic speaks of a structure, it speaks of the quotient
--   ProblemsCarried == a problem holds at a state exactly where it holds at the state's class in the quotient
use Rattle.std.specs.Prelude.{ℕ, ◌<◌, ◌≤◌, ◌⊎◌, ◌↔◌, List}
use Rattle.ml_base.specs.Structure.{Structure, IsStructure}
use Rattle.ml_bisim.specs.Bisimilar.{Bisimilar}
use Rattle.ml_bisim.specs.Quotient.{IsQuotientOf, class_of}
use Rattle.ml_front.specs.WellFormed.{IsMeaningful}
use Rattle.ml_front.specs.Logics.{logic_of}
use Rattle.ml_front.specs.Problems.{HoldsAt, IsAdmitted}
use Rattle.ml_front.specs.declared.logic.Logic.{Logic}
use Rattle.ml_front.specs.declared.problem.Problem.{Problem}
use Rattle.ml_bisim_problems.specs.Told.{SaysTheSame, ToldApart}

abbrev pub AdmittedKept : Type 0
AdmittedKept =
    (m q : Structure) (class : List ℕ) → IsStructure m → IsQuotientOf m class q
    → (l : Logic) → IsAdmitted l m → IsAdmitted l q

abbrev pub ProblemsCarried : Type 0
ProblemsCarried =
    (m q : Structure) (class : List ℕ) → IsQuotientOf m class q
    → (p : Problem) → IsMeaningful p.formula → IsAdmitted (logic_of p.formula) m
    → (s : ℕ) → s < m.states → HoldsAt m s p ↔ HoldsAt q (class_of class s) p

abbrev pub AlikeAreBisimilar : Type 0
AlikeAreBisimilar =
    (m : Structure) → IsStructure m → (s t : ℕ) → s < m.states → t < m.states → Bisimilar m s t ⊎ ToldApart m s t

abbrev pub NoneSmaller : Type 0
NoneSmaller =
    (m q : Structure) (class : List ℕ) → IsStructure m → IsQuotientOf m class q
    → (r : Structure) (at : ℕ → ℕ) → SaysTheSame m r at → q.states ≤ r.states
