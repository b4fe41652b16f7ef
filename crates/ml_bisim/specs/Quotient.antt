-- The quotient of a structure: its states are classes of bisimilar states.
--
-- A list tells the class of each state. Classes are numbered by their least states, ascending: as the states are gone
-- through from 0 on, each class that is new has the next number.
--
--   class_of class s       == the class of the state s
--   AreClasses m n class   == the states of m have n classes: two have one class exactly if they are bisimilar, and each
--                             new class is the next
--   SomeEdge m class c a d == some state of the class c has an edge by the action a into the class d
--   IsQuotientOf m class q == q has the classes as its states: each lists the propositions of its states, and has an edge
--                             exactly where one of its states has one into the other class
use Rattle.std.specs.Prelude.{ℕ, ◌≡◌, ◌<◌, ◌↔◌, List, length, get_or}
use Rattle.ml_base.specs.Structure.{Structure, IsStructure, lists}
use Rattle.ml_lists.specs.InTurn.{RunsOn}
use Rattle.ml_kripke.specs.Ordered.{IsOrdered}
use Rattle.ml_bisim.specs.Bisimilar.{Bisimilar, HasEdge}

abbrev pub class_of : List ℕ → ℕ → ℕ
class_of class s = get_or class s 0

pub record AreClasses (m : Structure) (n : ℕ) (class : List ℕ) : Type 0 where
  pub each_state : length class ≡ m.states
  pub bisimilar : (s t : ℕ) → s < m.states → t < m.states → (class_of class s ≡ class_of class t) ↔ Bisimilar m s t
  pub in_turn : RunsOn 0 class n

abbrev pub SomeEdge : Structure → List ℕ → ℕ → List ℕ → ℕ → Type 0
SomeEdge m class c a d = (s t : ℕ) × HasEdge m s a t × (class_of class s ≡ c) × (class_of class t ≡ d)

pub record IsQuotientOf (m : Structure) (class : List ℕ) (q : Structure) : Type 0 where
  pub is_structure : IsStructure q
  pub is_ordered : IsOrdered q
  pub classes : AreClasses m q.states class
  pub labels : (s : ℕ) → s < m.states → (p : List ℕ) → lists q (class_of class s) p ≡ lists m s p
  pub edges : (c : ℕ) (a : List ℕ) (d : ℕ) → HasEdge q c a d ↔ SomeEdge m class c a d
