use Rattle.std.proofs.Common.{◌≡◌, length}
use Rattle.ml_bisim.specs.private.Rounds.{HasMembers, rows}
use Rattle.ml_bisim.proofs.partition.members.Given as goal

abbrev pub invariant-loop-state : goal.invariant-loop-state
invariant-loop-state l = HasMembers l.class l.state (rows l.members.items) × (length l.members.items ≡ l.count)
