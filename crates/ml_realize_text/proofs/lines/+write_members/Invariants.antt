use Rattle.std.proofs.Common.{length}
use Rattle.ml_realize_text.proofs.lines.+write_members.Given as goal

abbrev pub decreases-write_members : goal.decreases-write_members
decreases-write_members l = length l.names.now
