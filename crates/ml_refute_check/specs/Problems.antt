-- What an accepted refutation tells of a problem.
--
--   RefutedIsUnsatisfiable == of each problem whose formula means something: where a refutation is accepted for its
--                             graph, no admitted structure has a state at which the problem holds
use Rattle.ml_graph.specs.Graph.{Graph}
use Rattle.ml_front.specs.declared.problem.Problem.{Problem}
use Rattle.ml_front.specs.Graphs.{IsMeaningful, IsGraphOf}
use Rattle.ml_front.specs.Problems.{IsSatisfiable}
use Rattle.ml_refutation.specs.Refutation.{Refutation, IsRefutation}
use Rattle.ml_refutation.specs.Acceptance.{IsAccepted}

abbrev pub RefutedIsUnsatisfiable : Type 0
RefutedIsUnsatisfiable =
    (p : Problem) (g : Graph) (r : Refutation)
    → IsMeaningful p.formula
    → IsGraphOf g p
    → IsRefutation r
    → IsAccepted g r
    → ¬ (IsSatisfiable p)
