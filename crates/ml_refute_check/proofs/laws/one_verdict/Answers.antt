use Rattle.ml_refute_check.proofs.OneVerdict as proved
use Rattle.ml_refute_check.proofs.SomeVerdict.{some_verdict}
use Rattle.ml_refute_check.proofs.laws.one_verdict.Goals as goal

pub returns-clause-some : goal.returns-clause-some
returns-clause-some c = some_verdict

pub returns-clause-once : goal.returns-clause-once
returns-clause-once c = proved.one_verdict

pub returns-clause-alike : goal.returns-clause-alike
returns-clause-alike c = proved.alike_checked
