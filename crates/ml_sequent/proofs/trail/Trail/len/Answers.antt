use Rattle.std.proofs.Common.{◌≤◌, length, subst}
use Rattle.ml_sequent.specs.private.Trails.{TrailList}
use Rattle.ml_sequent.proofs.TrailNodes.{trail_few}
use Rattle.ml_sequent.proofs.trail.Trail.len.Goals as goal

pub returns-clause-few : goal.returns-clause-few
returns-clause-few c =
    subst (λ (r : TrailList). length r.nodes ≤ r.room) c.self.view_is
    (trail_few c.self.inside.places.items c.self.inside.nodes.items c.self.invariant)
