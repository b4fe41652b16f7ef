-- A body that isn't read behind a head.
use Rattle.std.proofs.Common.{◌≡◌, Err, ap, inr}
use Rattle.std.specs.Result.{IsErrOf}
use Rattle.ml_base.specs.declared.doc_refusal.DocRefusal.{DocRefusal}
use Rattle.ml_refute_check.proofs.document.read_document.Goals as goal

same_error : {X Y : Type 0} (e f : DocRefusal) → IsErrOf {T = X} (Err e) f → IsErrOf {T = Y} (Err e) f
same_error e f is = let same : e ≡ f = cc in ap Err same

pub returns-in-Err-clause-refused : goal.returns-in-Err-clause-refused
returns-in-Err-clause-refused c = λ fault is. inr (record {
  version = c.in_ok-head.head.version;
  problem = c.in_ok-head.head.problem;
  body = c.in_ok-head.head.rest.now;
  has_head = c.in_ok-head.ensures.read;
  holds = c.in-Err.ensures.refused fault (same_error c.in-Err.refusal _ is);
})
