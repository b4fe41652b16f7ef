-- The statuses of decisions. Private contracts cite this; what is due stands in `Decision.antt`.
--
--   status_in n d       == the status that goes with the decision d, where n tells whether the negation was asked for
use Rattle.std.specs.Prelude.{Bool, if◌then◌else◌}
use Rattle.ml_decide.specs.declared.deciding.Decision.{Decision}
use Rattle.ml_decide.specs.declared.deciding.Decision.TheVariants as decision
use Rattle.ml_driver.specs.declared.status.Status.{Status}
use Rattle.ml_driver.specs.declared.status.Status.TheVariants as status

abbrev pub status_in : Bool → Decision → Status
status_in negated (decision.Satisfiable m) = if negated then status.No else status.Yes
status_in negated (decision.Unsatisfiable r) = if negated then status.Yes else status.No
status_in negated (decision.Undecided c) = status.Undecided
