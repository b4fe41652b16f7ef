-- A place with a conflict is a cause.
use Rattle.std.proofs.Common.{◌∙◌, subst}
use Rattle.ml_sequent.specs.declared.clashes.ClashCause.{ClashCause}
use Rattle.ml_sequent.specs.Branch.{BranchList}
use Rattle.ml_sequent.specs.Spread.{IsCause}
use Rattle.ml_sequent.proofs.NotedClashes.{conflict_told}
use Rattle.ml_sequent.proofs.branch.Branch.is_clashing.Goals as goal

pub returns-then-has_conflict-clause-yes : goal.returns-then-has_conflict-clause-yes
returns-then-has_conflict-clause-yes c = λ _.
    let a = c.self.inside in
    subst (λ (b : BranchList). (x : ClashCause) × IsCause b.graph b.spread x) (c.self.view_is ∙ c.is_calm.ensures.same)
    (conflict_told a.phase a.descent a.trail.nodes a.choice a.notes c.self.invariant.notes.noted
    c.self.invariant.notes.within
    (c.has_conflict.ensures.0 c.if-has_conflict.true))
