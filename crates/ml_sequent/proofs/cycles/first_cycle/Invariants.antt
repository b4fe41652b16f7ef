use Rattle.std.proofs.Common.{◌≡◌, length, take}
use Rattle.ml_sequent.specs.private.ConnectedParts.{IsLeast, IsLoopIn}
use Rattle.ml_sequent.proofs.cycles.first_cycle.Given as goal

abbrev pub invariant-loop-odd : goal.invariant-loop-odd
invariant-loop-odd l = record {
  size : length l.parts.stages ≡ length l.initial.parts.stages;
  least : IsLeast (IsLoopIn l.graph l.choice l.nodes (take l.odd-index l.odd-items)) l.first;
}
