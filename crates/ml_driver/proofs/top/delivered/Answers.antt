-- How the answer to a command is delivered.
use Rattle.std.proofs.Common.{Some, subst}
use Rattle.ml_driver.specs.Run.{IsAnswer, IsWhole, Wrote}
use Rattle.ml_driver.specs.private.Written.{IsSaidIf, wrote}
use Rattle.ml_driver.proofs.top.delivered.Goals as goal

pub returns-in-Ok : goal.returns-in-Ok
returns-in-Ok g c =
    let due = c.in-Ok.output in
    let old = c.args.sink.now in
    let new = c.written.new.sink in
    record {
      delivered =
          wrote due.status due.bytes.items due.said
          (subst (λ t. IsAnswer c.args.command t due.status due.bytes.items) c.deref.ensures.value c.in-Ok.ensures.answer)
          c.in-Ok.ensures.confirmed
          (subst IsWhole c.deref-in-Ok.ensures.value c.written.ensures.is_whole)
          c.in-Ok.ensures.told
          (subst
          (λ o. Wrote (g.K.Sink.taken old) (g.K.Sink.taken new) (g.K.Sink.faults old) (g.K.Sink.faults new) due.status o
          c.written.result.status)
          c.deref-in-Ok.ensures.value c.written.ensures.wrote)
          c.written.ensures.command
          c.written.ensures.input
          (subst
          (λ o. IsSaidIf (g.K.Sink.taken old) (g.K.Sink.taken new) o due.said due.status c.written.result.said c.written.result.status)
          c.deref-in-Ok.ensures.value c.written.ensures.said);
    }
