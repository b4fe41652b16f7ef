use Rattle.std.proofs.Common.{◌≡◌, [], replicate}
use Rattle.ml_bisim.specs.private.Rounds.{rows}
use Rattle.ml_bisim.proofs.partition.no_members.Given as goal

abbrev pub invariant-loop : goal.invariant-loop
invariant-loop l = rows l.members.items ≡ replicate l.counter []
