-- The document of a word stands behind the line.
use Rattle.std.proofs.Common.{refl}
use Rattle.ml_driver.specs.Said.{said_text, with_more}
use Rattle.ml_driver.specs.declared.said.Said.TheVariants.{Fails}
use Rattle.ml_driver.proofs.checking_machines.machine_told.Goals as goal

pub returns-in_ok-failing-in-Fails-clause-told : goal.returns-in_ok-failing-in-Fails-clause-told
returns-in_ok-failing-in-Fails-clause-told c = with_more (said_text Fails) _ (refl, refl) c.in_ok-failing-in-Fails.ensures
