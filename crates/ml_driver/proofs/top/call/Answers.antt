-- How a call ends, by its words.
use Rattle.std.proofs.Common.{[], None, Some, refl, sym, ◌∙◌}
use Rattle.ml_driver.specs.Said.{said_text}
use Rattle.ml_driver.proofs.Endings.{ended_written, ended_with, lacked, unread}
use Rattle.ml_driver.proofs.ToldCalls.{told_with}
use Rattle.ml_driver.specs.declared.said.Said.TheVariants.{NoCommand}
use Rattle.ml_driver.specs.declared.status.Status.TheVariants as status
use Rattle.ml_driver.proofs.top.call.Goals as goal

pub returns-in-Ok-Some-clause-ended : goal.returns-in-Ok-Some-clause-ended
returns-in-Ok-Some-clause-ended g c =
    ended_with (Some c.in-Ok-Some.command) _ _ _ (sym c.in-Ok-Some.ensures.command ∙ c.in-Ok-Some.field-0-is) c.answered.ensures.ended

pub returns-in-Ok-Some-clause-told : goal.returns-in-Ok-Some-clause-told
returns-in-Ok-Some-clause-told g c =
    told_with (Some c.in-Ok-Some.command) _ _ _ _ _ _ (sym c.in-Ok-Some.ensures.command ∙ c.in-Ok-Some.field-0-is)
    c.answered.ensures.told

pub returns-in-Ok-None-clause-ended : goal.returns-in-Ok-None-clause-ended
returns-in-Ok-None-clause-ended g c =
    ended_with None _ _ _ (sym c.in-Ok-None.ensures.command ∙ c.in-Ok-None.field-0-is)
    (ended_written None _ [] status.Words (said_text NoCommand) _ (refl, refl) refl (refl, refl) tt
    c.written.ensures.is_whole c.written.ensures.wrote)

pub returns-in-Err-clause-ended : goal.returns-in-Err-clause-ended
returns-in-Err-clause-ended g c =
    lacked _ _ _ c.failed.ensures.status (unread _ _ refl refl (record { source_is_calm = refl; sink_is_calm = refl }))
