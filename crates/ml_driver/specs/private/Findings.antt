-- The lines for what is found of a problem. Private contracts cite this.
--
--   nodes_line x, positions_line x == the two lines for what is found, one by one
use Rattle.std.specs.Prelude.{[], ◌∷◌, codes}
use Rattle.ml_lines.specs.Lines.{Line, number}
use Rattle.ml_decide.specs.declared.finding.Finding.{Finding}
use Rattle.ml_decide.specs.declared.finding.Finding.TheVariants.{Decided, GamePassed, ClosurePassed}

abbrev pub nodes_line : Finding → Line
nodes_line (Decided nodes positions satisfiable) = codes "nodes" ∷ number nodes ∷ []
nodes_line (GamePassed nodes) = codes "nodes" ∷ number nodes ∷ []
nodes_line ClosurePassed = codes "nodes" ∷ codes "passed" ∷ []

abbrev pub positions_line : Finding → Line
positions_line (Decided nodes positions satisfiable) = codes "positions" ∷ number positions ∷ []
positions_line (GamePassed nodes) = codes "positions" ∷ codes "passed" ∷ []
positions_line ClosurePassed = codes "closure" ∷ codes "passed" ∷ []
