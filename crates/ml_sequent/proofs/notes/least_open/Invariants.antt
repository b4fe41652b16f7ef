use Rattle.std.proofs.Common.{ℕ, ◌≡◌}
use Rattle.ml_sequent.specs.private.ConnectedParts.{IsLeast}
use Rattle.ml_sequent.specs.private.Notes.{IsOpenAt}
use Rattle.ml_sequent.specs.private.Tournament.{Holds}
use Rattle.ml_sequent.proofs.NotedPlaces.{ahead}
use Rattle.ml_sequent.proofs.notes.least_open.Given as goal

abbrev pub invariant-loop-next : goal.invariant-loop-next
invariant-loop-next l = record {
  room : l.candidates.room ≡ l.fn.candidates.room;
  fewer : (n : ℕ) → Holds l.candidates n → Holds l.fn.candidates n;
  kept : (n : ℕ) → Holds l.fn.candidates n → IsOpenAt l.graph l.choice l.trail.nodes n → Holds l.candidates n;
  least : IsLeast (Holds l.candidates) l.next;
}

abbrev pub decreases-loop-next : goal.decreases-loop-next
decreases-loop-next l = ahead l.candidates.room l.next
