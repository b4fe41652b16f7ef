use Rattle.std.proofs.Common.{ℕ, ◌≡◌, true, take, length}
use Rattle.ml_lists.specs.Member.{IsMember}
use Rattle.ml_sequent.specs.declared.reach.Visit.{Visit}
use Rattle.ml_sequent.specs.private.Reach.{mark, code}
use Rattle.ml_sequent.proofs.reach.unmark.Given as goal

abbrev pub invariant-loop-visit : goal.invariant-loop-visit
invariant-loop-visit l = record {
  size : length l.marks.items ≡ length l.initial.marks.items;
  unmarked : (m : ℕ) → mark l.marks.items m ≡ true
      → (mark l.initial.marks.items m ≡ true) × ((v : Visit) → IsMember v (take l.visit-index l.found) → m ≡ code l.width v → ⊥);
}
