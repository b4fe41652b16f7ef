use Rattle.ml_replies.proofs.OneCheck as checks
use Rattle.ml_replies.proofs.laws.one_check.Goals as goal

pub returns : goal.returns
returns c = record { some = checks.some_check; one = checks.one_check }
