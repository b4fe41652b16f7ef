use Rattle.ml_replies.proofs.Conflicts as conflicts
use Rattle.ml_replies.proofs.laws.conflicts_are_apart.Goals as goal

pub returns : goal.returns
returns c = conflicts.conflicts_are_apart
