use Rattle.std.proofs.Common.{IfOk, subst}
use Rattle.ml_refute_check.specs.Documents.{IsVerdict}
use Rattle.ml_refute_check.proofs.Accepted.{accepted_is_true}
use Rattle.ml_refute_check.proofs.document.check.Goals as goal

pub returns-in-Ok : goal.returns-in-Ok
returns-in-Ok c = record {
  verdict = c.check_shown.ensures;
  sound = λ e. accepted_is_true c.args.bytes.now
      (subst (λ r. IfOk r (IsVerdict c.args.bytes.now)) e c.check_shown.ensures);
}
