use Rattle.ml_replies.proofs.Checks as checks
use Rattle.ml_replies.proofs.laws.checks_are_enough.Goals as goal

pub returns : goal.returns
returns c = checks.checks_are_enough
