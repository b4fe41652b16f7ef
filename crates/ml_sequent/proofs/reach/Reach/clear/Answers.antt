use Rattle.std.proofs.Common.{◌<◌, length, List, All, sym, subst}
use Rattle.ml_lists.specs.Member.{IsMember}
use Rattle.ml_lists.proofs.Member.{member-All}
use Rattle.ml_sequent.specs.declared.reach.Visit.{Visit}
use Rattle.ml_sequent.specs.private.Reach.{code, IsMarked}
use Rattle.ml_sequent.proofs.Reaching.{all_unmarked}
use Rattle.ml_sequent.proofs.reach.Reach.clear.Goals as goal

pub unmark-requires : goal.unmark-requires
unmark-requires c =
    let marks = c.self.inside.marks.items in
    subst (λ (found : List Visit). All (λ v. code c.self.inside.width v < length marks) found) (sym c.deref.ensures.value)
    (member-All (λ v. code c.self.inside.width v < length marks) c.self.inside.found.items (λ v h. (c.self.invariant.low v h).1))

pub invariant_of-self : goal.invariant_of-self
invariant_of-self c =
    subst (λ (found : List Visit). IsMarked c.self.inside.width c.unmark.new.marks.items found) (sym c.clear.ensures.items)
    (all_unmarked c.self.inside.width c.self.inside.marks.items c.unmark.new.marks.items c.self.inside.found.items c.self.invariant
    (λ m h. let left = c.unmark.ensures.unmarked m h in (left.0, λ v v_in e. left.1 v (subst (IsMember v) (sym c.deref.ensures.value) v_in) e)))
