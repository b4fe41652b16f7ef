use Rattle.ml_refute_check.proofs.Refuted.{refuted_is_unsatisfiable}
use Rattle.ml_refute_check.proofs.laws.refuted_is_unsatisfiable.Goals as goal

pub returns : goal.returns
returns c = refuted_is_unsatisfiable
