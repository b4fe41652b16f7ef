-- Laws of decisions, and of the decision games of problems.
--
--   IsExact w n p a  == the answer a says of the problem p what is true of it
--   DecisionsAreExact == each decision is exact
--   OneDecision      == by the whole game a problem has one answer, for a limit
--   AgreeUnlessOpen a b == the answers a and b are the same, or one of them leaves the problem open
--   DecisionsAgree   == so are two decisions of a problem, in whichever ways, and up to whichever limits
--   FoundAsDecided   == what a problem is decided to be by the whole game, a search may decide it to be
--   HasAnswer w n p  == there is a structure with a text that meets p, or a refutation of p, where p may be answered in this
--                       way, and its game may have n positions; or p stays open for some cause
--   SomeDecision     == each problem that the program holds has an answer, whatever the limit, of 32 bits
--   SomeFinding, OneFinding == exactly one thing is found of it
--   SomeGame         == the decision game of a graph has an arena with at most so many positions, or has more
--   GraphsFit        == the trace automaton of the graph of a problem within the limits has at most 2^30 states
use Rattle.std.specs.Prelude.{ℕ, ◌≡◌, ◌<◌, ◌≤◌, ◌^◌, ◌⊎◌, length}
use Rattle.ml_base.specs.Structure.{Structure}
use Rattle.ml_front.specs.Graphs.{HasLargeClosure, IsGraphOf}
use Rattle.ml_front.specs.Logics.{IsWellFormed}
use Rattle.ml_front.specs.Problems.{IsSatisfiable}
use Rattle.ml_front.specs.declared.answer.Answer.{Answer}
use Rattle.ml_front.specs.declared.answer.Answer.TheVariants.{Satisfiable, Unsatisfiable, Undecided}
use Rattle.ml_front.specs.declared.problem.Problem.{Problem}
use Rattle.ml_front.specs.declared.problem.TheConstants.{MOST_NODES}
use Rattle.ml_graph.specs.Graph.{Graph, IsGraph}
use Rattle.ml_kripke.specs.ModelText.{IsWritten}
use Rattle.ml_kripke.specs.Ordered.{IsOrdered}
use Rattle.ml_product.specs.Arena.{Arena, IsArenaOf}
use Rattle.ml_product.specs.DecisionGame.{HasMoreThan}
use Rattle.ml_product.specs.Position.{automaton_states}
use Rattle.ml_refutation.specs.Refutation.{Refutation}
use Rattle.ml_decide.specs.Decision.{IsDecided, IsMetBy, IsRefutedBy, answer_by}
use Rattle.ml_decide.specs.Limits.{IsClosed, StaysOpen}
use Rattle.ml_decide.specs.Measures.{IsFinding}
use Rattle.ml_decide.specs.declared.cause.Cause.{Cause}
use Rattle.ml_decide.specs.declared.deciding.Decision.{Decision}
use Rattle.ml_decide.specs.declared.finding.Finding.{Finding}
use Rattle.ml_decide.specs.declared.way.Way.{Way}
use Rattle.ml_decide.specs.declared.way.Way.TheVariants.{WholeGame, Search}

-- ---- decisions

-- an answer says that the problem stays undecided, where it does; or that it is satisfiable, or that it isn't, and so it is
pub data IsExact (w : Way) (n : ℕ) (p : Problem) (a : Answer) : Type 0 where
  open_at : (c : Cause) → StaysOpen n p c → a ≡ Undecided → IsExact w n p a
  satisfiable_at : IsClosed w n p → IsSatisfiable p → a ≡ Satisfiable → IsExact w n p a
  unsatisfiable_at : IsClosed w n p → ¬ (IsSatisfiable p) → a ≡ Unsatisfiable → IsExact w n p a

abbrev pub DecisionsAreExact : Type 0
DecisionsAreExact = (w : Way) (n : ℕ) (p : Problem) (d : Decision) → IsDecided w n p d → IsExact w n p (answer_by d)

abbrev pub OneDecision : Type 0
OneDecision = (n : ℕ) (p : Problem) (d e : Decision) → IsDecided WholeGame n p d → IsDecided WholeGame n p e
    → answer_by d ≡ answer_by e

abbrev pub AgreeUnlessOpen : Answer → Answer → Type 0
AgreeUnlessOpen a b = (a ≡ b) ⊎ ((a ≡ Undecided) ⊎ (b ≡ Undecided))

abbrev pub DecisionsAgree : Type 0
DecisionsAgree = (v w : Way) (n k : ℕ) (p : Problem) (d e : Decision) → IsDecided v n p d → IsDecided w k p e
    → AgreeUnlessOpen (answer_by d) (answer_by e)

abbrev pub FoundAsDecided : Type 0
FoundAsDecided = (n : ℕ) (p : Problem) (d : Decision) → IsDecided WholeGame n p d → IsDecided Search n p d

pub data HasAnswer (w : Way) (n : ℕ) (p : Problem) : Type 0 where
  by_structure : IsClosed w n p
      → (m : Structure) (start : ℕ) → IsMetBy p m start → IsWritten m start → IsOrdered m → HasAnswer w n p
  by_refutation : IsClosed w n p → (r : Refutation) → IsRefutedBy p r → HasAnswer w n p
  left_open : (c : Cause) → StaysOpen n p c → HasAnswer w n p

abbrev pub SomeDecision : Type 0
SomeDecision = (w : Way) (n : ℕ) (p : Problem) → n < 2 ^ 32 → IsWellFormed p.formula → HasAnswer w n p

-- ---- what is measured

abbrev pub SomeFinding : Type 0
SomeFinding = (n : ℕ) (p : Problem) → n < 2 ^ 32 → IsWellFormed p.formula → (x : Finding) × IsFinding n p x

abbrev pub OneFinding : Type 0
OneFinding = (n : ℕ) (p : Problem) (x y : Finding) → IsFinding n p x → IsFinding n p y → x ≡ y

-- ---- graphs and games

abbrev pub GraphsFit : Type 0
GraphsFit = (g : Graph) (p : Problem)
    → IsWellFormed p.formula
    → ¬ (HasLargeClosure p MOST_NODES)
    → IsGraphOf g p
    → automaton_states g ≤ 2 ^ 30

abbrev pub SomeGame : Type 0
SomeGame =
    (g : Graph) (n : ℕ) → IsGraph g → ((a : Arena) × (IsArenaOf g a × (length a.positions ≤ n))) ⊎ HasMoreThan g n
