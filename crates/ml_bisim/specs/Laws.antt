-- Laws of quotients.
--
--   GraphsCarried   == a modal graph holds at a state exactly where it holds at the state's class in the quotient
--   Reduced         == no two different states of the quotient are bisimilar
--   OneQuotient     == a structure has one quotient at most, with one list of classes
--   SomeClasses     == the states of each structure have classes
--   TotalKept       == where each state of the structure has an edge by an action, so does each of the quotient
use Rattle.std.specs.Prelude.{ℕ, ◌≡◌, ◌<◌, ◌↔◌, List}
use Rattle.ml_base.specs.Structure.{Structure, IsStructure}
use Rattle.ml_graph.specs.Graph.{Graph, IsGraph, size}
use Rattle.ml_graph.specs.CheckingGame.{HoldsAt}
use Rattle.ml_kripke.specs.Total.{IsTotal}
use Rattle.ml_bisim.specs.Bisimilar.{Bisimilar}
use Rattle.ml_bisim.specs.Quotient.{AreClasses, IsQuotientOf, class_of}

abbrev pub GraphsCarried : Type 0
GraphsCarried =
    (m q : Structure) (class : List ℕ) → IsStructure m → IsQuotientOf m class q
    → (g : Graph) → IsGraph g → (s n : ℕ) → s < m.states → n < size g
    → HoldsAt g m s n ↔ HoldsAt g q (class_of class s) n

abbrev pub Reduced : Type 0
Reduced =
    (m q : Structure) (class : List ℕ) → IsStructure m → IsQuotientOf m class q
    → (c d : ℕ) → c < q.states → d < q.states → Bisimilar q c d → c ≡ d

abbrev pub TotalKept : Type 0
TotalKept =
    (m q : Structure) (class : List ℕ) → IsStructure m → IsQuotientOf m class q
    → (a : List ℕ) → IsTotal m a → IsTotal q a

abbrev pub OneQuotient : Type 0
OneQuotient =
    (m q r : Structure) (class other : List ℕ) → IsQuotientOf m class q → IsQuotientOf m other r
    → (class ≡ other) × (q ≡ r)

abbrev pub SomeClasses : Type 0
SomeClasses = (m : Structure) → IsStructure m → (n : ℕ) × ((class : List ℕ) × AreClasses m n class)
