-- Rows of steps, as the vectors hold them.
--
--   steps_of rows   == the steps of each row
use Rattle.std.specs.Prelude.{List, map}
use Rattle.std.specs.Global.{Vec}
use Rattle.ml_synthesis.specs.declared.machines.MachineStep.{MachineStep}

abbrev pub steps_of : List (Vec MachineStep) → List (List MachineStep)
steps_of rows = map (λ (row : Vec MachineStep). row.items) rows
