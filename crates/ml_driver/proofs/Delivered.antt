-- How a call ends whose answer is delivered, and what it gives back.
--
--   delivered_ended == it ends as it should
--   delivered_told  == and gives back what is told
use Rattle.std.proofs.Common.{◌≡◌, ℕ, List, Option, Some, None, sym, subst, inl}
use Rattle.ml_driver.specs.Calls.{IsSilent, IsToldIn}
use Rattle.ml_driver.specs.Run.{Ended, IsWithin, WasGiven, World}
use Rattle.ml_driver.specs.Statuses.{longest_input}
use Rattle.ml_driver.specs.private.Written as written
use Rattle.ml_driver.specs.private.Written.{IsDelivered, wrote}
use Rattle.ml_driver.specs.declared.command.Command.{Command}
use Rattle.ml_driver.specs.declared.said.Said.{Said}
use Rattle.ml_driver.specs.declared.status.Status.{Status}
use Rattle.ml_driver.proofs.Endings.{ended_written, lacked, lacking}
use Rattle.ml_driver.proofs.ToldCalls.{begins_of, read_of, told_written}

module _
    (c : Command) (w : World) (text : List ℕ) (s : Status) (d : Option Command) (input : List ℕ) (said : Option Said)
    (given : WasGiven (longest_input c) w.left_before w.left_after text)
  where
    pub delivered_ended : IsWithin c text
        → w.source_faults_after ≡ w.source_faults_before
        → IsDelivered c text w.taken_before w.taken_after w.sink_faults_before w.sink_faults_after s d input said
        → Ended (Some c) w s
    delivered_ended fits calm (wrote due output x answer confirmed whole told out same read x_said) =
        ended_written (Some c) w text due output s given calm (inl (fits, answer)) confirmed whole out
    delivered_ended fits calm (written.lacked is none same unmoved) =
        lacked (Some c) w s is
        (lacking c w text given fits same (record { source_is_calm = calm; sink_is_calm = unmoved }))

    pub delivered_told : IsDelivered c text w.taken_before w.taken_after w.sink_faults_before w.sink_faults_after s d input said
        → IsToldIn (Some c) w s d input said
    delivered_told (wrote due output x answer confirmed whole told out same read x_said) =
        told_written (Some c) w d input output due x said s (begins_of c due output x told) same
        (read_of (longest_input c) w.left_before w.left_after input x
        (subst (WasGiven (longest_input c) w.left_before w.left_after) (sym read) given))
        x_said
    delivered_told (written.lacked is none same unmoved) =
        subst (λ y. IsToldIn (Some c) w s d input y) (sym none) (subst (λ t. IsSilent (Some c) t) (sym is) tt)
