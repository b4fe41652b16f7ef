-- The statuses of outcomes. Private contracts cite this.
--
--   status_of r == yes with a machine, no with an environment
use Rattle.ml_driver.specs.declared.status.Status.{Status}
use Rattle.ml_driver.specs.declared.status.Status.TheVariants.{Yes, No}
use Rattle.ml_synthesis.specs.declared.outcome.Outcome.{Outcome}
use Rattle.ml_synthesis.specs.declared.outcome.Outcome.TheVariants.{Made, Defeated}

abbrev pub status_of : Outcome → Status
status_of (Made m) = Yes
status_of (Defeated e) = No
