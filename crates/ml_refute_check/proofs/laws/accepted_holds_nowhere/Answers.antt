use Rattle.ml_refute_check.proofs.EntryLoops.{accepted_holds_nowhere}
use Rattle.ml_refute_check.proofs.laws.accepted_holds_nowhere.Goals as goal

pub returns : goal.returns
returns c = record { law = accepted_holds_nowhere }
