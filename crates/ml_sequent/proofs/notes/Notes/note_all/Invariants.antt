use Rattle.std.proofs.Common.{ℕ, ◌≤◌, ◌-◌, List, length}
use Rattle.ml_sequent.specs.declared.choice.Side.{Side}
use Rattle.ml_sequent.specs.private.Notes.{IsNoted, HasOpen}
use Rattle.ml_sequent.proofs.notes.Notes.note_all.Given as goal

abbrev pub invariant-loop-self : goal.invariant-loop-self
invariant-loop-self l = record {
  within : l.self.done ≤ length l.trail.nodes;
  noted : IsNoted l.graph l.descent l.trail.nodes l.self.done l.self;
  has_open : (c : List (ℕ × Side)) → HasOpen l.graph c l.trail.nodes l.fn.self.done l.fn.self.candidates
      → HasOpen l.graph c l.trail.nodes l.self.done l.self.candidates;
}

abbrev pub decreases-loop-self : goal.decreases-loop-self
decreases-loop-self l = length l.trail.nodes - l.self.done
