use Rattle.ml_replies.proofs.FewerRequirements.{fewer_met}
use Rattle.ml_replies.proofs.NeverBoth as both
use Rattle.ml_replies.proofs.laws.never_both.Goals as goal

pub returns : goal.returns
returns c = record { fewer = fewer_met; never_both = both.never_both }
