-- What a search with many formulas comes to, as far as anything is said of it.
--
--   IsFindingOf n found == where found tells formulas that may clash, it flags n formulas or not
use Rattle.std.specs.Prelude.{ℕ, ◌≡◌, length}
use Rattle.ml_joined_graph.specs.declared.finding.JoinedFinding.{JoinedFinding}
use Rattle.ml_joined_graph.specs.declared.finding.JoinedFinding.TheVariants.{Structure, Clash, Nothing}

abbrev pub IsFindingOf : ℕ → JoinedFinding → Type 0
IsFindingOf n (Structure model) = Unit
IsFindingOf n (Clash flags) = length flags.items ≡ n
IsFindingOf n Nothing = Unit
