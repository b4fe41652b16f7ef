use Rattle.std.proofs.Common.{length}
use Rattle.ml_realize_text.proofs.sets.+behind_members.Given as goal

abbrev pub decreases-behind_members : goal.decreases-behind_members
decreases-behind_members l = length l.names.now
