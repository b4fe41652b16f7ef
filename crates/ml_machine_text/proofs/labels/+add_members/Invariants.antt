use Rattle.std.proofs.Common.{length}
use Rattle.ml_machine_text.proofs.labels.+add_members.Given as goal

abbrev pub decreases-add_members : goal.decreases-add_members
decreases-add_members l = length l.names.now
