-- How the call of a command ends, by what was read.
use Rattle.std.proofs.Common.{◌<◌, Some, arith, length}
use Rattle.ml_driver.specs.Said.{said_text}
use Rattle.ml_driver.proofs.Delivered.{delivered_ended, delivered_told}
use Rattle.ml_driver.proofs.Endings.{ended_written, given_past, line_confirmed, too_long_due}
use Rattle.ml_driver.specs.declared.said.Said.TheVariants.{TooLong}
use Rattle.ml_driver.specs.declared.status.Status.TheVariants as status
use Rattle.ml_driver.proofs.top.answered.Goals as goal

pub returns-in-Ok-clause-ended : goal.returns-in-Ok-clause-ended
returns-in-Ok-clause-ended g c =
    delivered_ended _ _ _ _ _ _ _ c.in-Ok.ensures.given c.in-Ok.ensures.fits c.in-Ok.ensures.calm
    c.delivered.ensures.delivered

pub returns-in-Ok-clause-told : goal.returns-in-Ok-clause-told
returns-in-Ok-clause-told g c = delivered_told _ _ _ _ _ _ _ c.in-Ok.ensures.given c.delivered.ensures.delivered

pub returns-in-Err-TooLong-clause-ended : goal.returns-in-Err-TooLong-clause-ended
returns-in-Err-TooLong-clause-ended g c =
    let command = c.args.command in
    let refused = rw c.in-Err-TooLong.field-0-is at c.in-Err-TooLong.ensures.refused in
    let calm = rw c.in-Err-TooLong.field-0-is at c.in-Err-TooLong.ensures.faults in
    let gives = refused.gives in
    let long : refused.limit < length gives.0 = omega (arith, gives.2) in
    ended_written (Some command) _ gives.0 status.Text (said_text TooLong) _
    (given_past command refused.limit _ _ gives.0 refused.takes gives.1 gives.2) calm
    (too_long_due command refused.limit gives.0 refused.takes long)
    (line_confirmed (Some command) (said_text TooLong))
    c.written.ensures.is_whole c.written.ensures.wrote
