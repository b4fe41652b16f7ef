-- What checking a refutation against a graph finds.
--
--   IsFinding g r v == v is what checking r in g finds: that it is accepted, or its first bad part
--   OneFinding      == checking a refutation in a graph finds exactly one thing
use Rattle.std.specs.Prelude.{◌≡◌}
use Rattle.ml_graph.specs.Graph.{Graph, IsGraph}
use Rattle.ml_refutation.specs.Refutation.{Refutation}
use Rattle.ml_refutation.specs.Acceptance.{IsAccepted, IsFirstBad}
use Rattle.ml_refute_check.specs.declared.finding.Finding.{Finding}
use Rattle.ml_refute_check.specs.declared.finding.Finding.TheVariants.{Accepted, Rejected}

abbrev pub IsFinding : Graph → Refutation → Finding → Type 0
IsFinding g r Accepted = IsAccepted g r
IsFinding g r (Rejected fault) = IsFirstBad g r fault.entry fault.part fault.rule

abbrev pub OneFinding : Type 0
OneFinding =
    (g : Graph) (r : Refutation) → IsGraph g
    → (v : Finding) × IsFinding g r v × ((w : Finding) → IsFinding g r w → v ≡ w)
