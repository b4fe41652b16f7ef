-- What is found in a graph of a problem decides the problem.
--
--   met_by      == a structure that was made for a graph of the problem meets it
--   refuted_by  == a refutation that is accepted in a graph of the problem refutes it
--   open_by     == where the game of a graph of the problem passes the limit, it stays open
use Rattle.std.proofs.Common.{ℕ, refl}
use Rattle.ml_base.specs.Structure.{Structure}
use Rattle.ml_extract.specs.Extraction.{Extracted}
use Rattle.ml_front.specs.Graphs.{IsGraphOf}
use Rattle.ml_front.specs.Logics.{IsWellFormed}
use Rattle.ml_front.specs.declared.problem.Problem.{Problem}
use Rattle.ml_front.proofs.Graphs.{graphs_agree, meaningful}
use Rattle.ml_graph.specs.Graph.{Graph}
use Rattle.ml_product.specs.DecisionGame.{HasMoreThan}
use Rattle.ml_refutation.specs.Acceptance.{IsAccepted}
use Rattle.ml_refutation.specs.Refutation.{Refutation, IsRefutation}
use Rattle.ml_refute_check.proofs.Refuted.{refuted_is_unsatisfiable}
use Rattle.ml_decide.specs.Decision.{IsMetBy, IsRefutedBy}
use Rattle.ml_decide.specs.Limits.{StaysOpen}
use Rattle.ml_decide.specs.declared.cause.Cause.TheVariants.{Positions}
use Rattle.ml_decide.specs.private.Translated.{IsTranslated}
use Rattle.ml_decide.proofs.ProblemGraphs.{admitted}

module _ (p : Problem) (g : Graph) (well : IsWellFormed p.formula) (is_graph : IsGraphOf g p) where
  pub met_by : (m : Structure) (start : ℕ) → Extracted g m start → IsMetBy p m start
  met_by m start made =
      let is_admitted = admitted g p m start is_graph made in
      record {
        is_admitted = is_admitted;
        is_state = made.is_state;
        holds = (graphs_agree p g (meaningful p.formula well) is_graph m is_admitted start made.is_state).0 made.holds;
        are_reached = made.reached;
      }

  pub refuted_by : (r : Refutation) → IsRefutation r → IsAccepted g r → IsRefutedBy p r
  refuted_by r is_refutation accepted = record {
    is_refutation = is_refutation;
    is_accepted = record { graph = g; is_graph = is_graph; holds = accepted };
    is_unsatisfiable = refuted_is_unsatisfiable p g r (meaningful p.formula well) is_graph is_refutation accepted;
  }

pub open_by : (n : ℕ) (p : Problem) (g : Graph) → IsTranslated p g → HasMoreThan g n → StaysOpen n p (Positions n)
open_by n p g is more = (refl, is.fits, record { graph = g; is_graph = is.is_graph_of; holds = more })
