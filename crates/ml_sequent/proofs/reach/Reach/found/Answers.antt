use Rattle.std.proofs.Common.{◌<◌, subst}
use Rattle.ml_lists.specs.Member.{IsMember}
use Rattle.ml_sequent.specs.private.Reach.{ReachList, code}
use Rattle.ml_sequent.proofs.reach.Reach.found.Goals as goal

pub returns-clause-low : goal.returns-clause-low
returns-clause-low c = λ v h.
    subst (λ (r : ReachList). (v.rank < r.width) × (code r.width v < r.room)) c.self.view_is
    (c.self.invariant.low v (subst (IsMember v) c.deref.ensures.value h))
