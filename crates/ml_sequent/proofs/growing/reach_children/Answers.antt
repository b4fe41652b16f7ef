use Rattle.std.proofs.Common.{[], ◌∷◌, sym}
use Rattle.ml_sequent.specs.LocalWalk.{children}
use Rattle.ml_sequent.proofs.TrailNodes.{joined_two}
use Rattle.ml_sequent.proofs.growing.reach_children.Goals as goal

pub returns-in_ok-reach-in-Two-clause-joined : goal.returns-in_ok-reach-in-Two-clause-joined
returns-in_ok-reach-in-Two-clause-joined c =
    joined_two (c.in-Two.left ∷ []) (c.in-Two.right ∷ []) (children c.args.graph.now c.args.choice.now c.args.node)
    c.args.trail.now.nodes c.reach-in-Two.new.self.nodes c.reach-in-Two-2.new.self.nodes c.reach-in-Two-2.result
    c.in_ok-reach-in-Two.ensures.joined c.reach-in-Two-2.ensures.joined (sym c.in-Two.ensures.value)
