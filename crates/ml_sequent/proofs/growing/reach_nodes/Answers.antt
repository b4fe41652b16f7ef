use Rattle.std.proofs.Common.{List, ℕ, ◌∙◌, subst, arith}
use Rattle.std.proofs.lemmas.List.{take_all}
use Rattle.ml_sequent.specs.private.Trails.{IsJoined}
use Rattle.ml_sequent.proofs.TrailNodes.{joined_more}
use Rattle.ml_sequent.proofs.growing.reach_nodes.Goals as goal

pub reach-requires : goal.reach-requires
reach-requires c =
    let low = c.requires c.loop-node.node-index 0 c.loop-node-test.true in
    omega (arith, low, c.loop-node.invariant.room)

pub loop-node-preserved : goal.loop-node-preserved
loop-node-preserved c = record {
  room = c.in_ok-reach.ensures.room ∙ c.loop-node.invariant.room;
  joined =
      joined_more c.args.nodes.now c.loop-node.node-index c.args.trail.now.nodes c.loop-node.trail.nodes c.reach.new.self.nodes
      c.loop-node-test.true c.loop-node.invariant.joined c.in_ok-reach.ensures.joined;
}

pub returns-clause-joined : goal.returns-clause-joined
returns-clause-joined c =
    let all = take_all c.loop-node.node-index c.args.nodes.now (omega arith) in
    subst (λ (ks : List ℕ). IsJoined ks c.args.trail.now.nodes c.loop-node.trail.nodes) all c.loop-node.invariant.joined
