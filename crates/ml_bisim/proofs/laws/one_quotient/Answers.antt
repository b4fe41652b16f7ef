use Rattle.ml_bisim.proofs.OneQuotient.{one_quotient}
use Rattle.ml_bisim.proofs.SomeClasses.{some_classes}
use Rattle.ml_bisim.proofs.laws.one_quotient.Goals as goal

pub returns-clause-once : goal.returns-clause-once
returns-clause-once c = one_quotient

pub returns-clause-classes : goal.returns-clause-classes
returns-clause-classes c = some_classes
