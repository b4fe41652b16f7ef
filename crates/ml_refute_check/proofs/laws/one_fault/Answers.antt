use Rattle.ml_refute_check.proofs.OneFault.{never_both, one_fault, rules_rise}
use Rattle.ml_refute_check.proofs.SomeFault.{some_fault}
use Rattle.ml_refute_check.proofs.laws.one_fault.Goals as goal

pub returns : goal.returns
returns c = record { some = some_fault; exclusive = never_both; fault = one_fault; lowest = rules_rise }
