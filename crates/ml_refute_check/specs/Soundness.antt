-- What an accepted refutation tells, and what one that isn't accepted has.
--
-- In a graph, a refutation is accepted or has exactly one first bad part, which breaks exactly one lowest rule; never
-- both. This asks nothing of the refutation.
--
--   AcceptedHoldsNowhere == where a refutation is accepted for a graph, the graph holds at no state of any structure
--   AcceptedOrFault      == in a graph, a refutation is accepted or has a first bad part
--   NeverBoth            == an accepted refutation has no first bad part
--   OneFault             == a refutation has one first bad part at most, which breaks one lowest rule
--   RulesRise            == the rules of each part rise by their numbers, so the first one that is broken is the lowest
use Rattle.std.specs.Prelude.{ℕ, ◌<◌, ◌≡◌, ◌⊎◌}
use Rattle.ml_base.specs.Structure.{Structure, IsStructure}
use Rattle.ml_lists.specs.Ascending.{IsAscending}
use Rattle.ml_lists.specs.Readings.{numbers}
use Rattle.ml_graph.specs.Graph.{Graph, IsGraph}
use Rattle.ml_graph.specs.CheckingGame.{Holds}
use Rattle.ml_refutation.specs.Refutation.{Refutation, IsRefutation}
use Rattle.ml_refutation.specs.Acceptance.{Part, rules, IsAccepted, IsFirstBad}

abbrev pub AcceptedHoldsNowhere : Type 0
AcceptedHoldsNowhere =
    (g : Graph) (r : Refutation) → IsGraph g → IsRefutation r → IsAccepted g r
    → (m : Structure) → IsStructure m → (s : ℕ) → s < m.states → Holds g m s → ⊥

abbrev pub AcceptedOrFault : Type 0
AcceptedOrFault =
    (g : Graph) (r : Refutation) → IsGraph g
    → IsAccepted g r ⊎ ((e : ℕ) × (k : ℕ) × (number : ℕ) × IsFirstBad g r e k number)

abbrev pub NeverBoth : Type 0
NeverBoth = (g : Graph) (r : Refutation) (e k number : ℕ) → IsAccepted g r → IsFirstBad g r e k number → ⊥

abbrev pub OneFault : Type 0
OneFault =
    (g : Graph) (r : Refutation) (e k number : ℕ) (f j other : ℕ) → IsFirstBad g r e k number → IsFirstBad g r f j other
    → (e ≡ f) × (k ≡ j) × (number ≡ other)

abbrev pub RulesRise : Type 0
RulesRise = (r : Refutation) (e : ℕ) (part : Part) → IsAscending (numbers (rules r e part))
