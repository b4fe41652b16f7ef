use Rattle.std.proofs.Common.{◌*◌, ◌<◌}
use Rattle.ml_sequent.specs.private.Tournament.{IsSlotted, IsEntered}
use Rattle.ml_sequent.proofs.Tournaments.{Meets}
use Rattle.ml_sequent.proofs.tournament.enter.Given as goal

abbrev pub invariant-loop-place : goal.invariant-loop-place
invariant-loop-place l = record {
  slotted : IsSlotted l.room l.slots.items (Meets l.place);
  entered : IsEntered l.room l.number l.fn.entry l.fn.slots.items l.slots.items;
  low : l.place < 2 * l.room;
}

abbrev pub decreases-loop-place : goal.decreases-loop-place
decreases-loop-place l = l.place
