use Rattle.std.proofs.Common.{◌<◌, ◌∙◌, length, subst, arith}
use Rattle.ml_sequent.specs.LocalWalk.{children}
use Rattle.ml_sequent.specs.private.Trails.{IsJoined}
use Rattle.ml_sequent.proofs.TrailSearches.{grown_same, grown_more, search_stepped, search_over}
use Rattle.ml_sequent.proofs.growing.grow.Goals as goal

pub loop-i-init : goal.loop-i-init
loop-i-init c = record { room = c.requires; grown = grown_same c.args.trail.now.nodes; search = λ C u. u }

pub loop-i-preserved : goal.loop-i-preserved
loop-i-preserved c =
    let g = c.args.graph.now in
    let low : c.loop-i.i < length c.loop-i.trail.nodes = omega arith in
    let joined = subst (λ n. IsJoined (children g c.args.choice.now n) c.loop-i.trail.nodes c.reach_children.new.trail.nodes)
    c.node.ensures.value c.in_ok-reach_children.ensures.joined in
    record {
      room = c.in_ok-reach_children.ensures.room ∙ c.loop-i.invariant.room;
      grown = grown_more (children g c.args.choice.now c.node.result) c.args.trail.now.nodes c.loop-i.trail.nodes c.reach_children.new.trail.nodes
          c.loop-i.invariant.grown c.in_ok-reach_children.ensures.joined;
      search = λ C u. search_stepped g c.args.choice.now C c.loop-i.i c.loop-i.trail.nodes c.reach_children.new.trail.nodes
          (c.loop-i.invariant.search C u) low joined;
    }

pub returns-clause-spread : goal.returns-clause-spread
returns-clause-spread c = λ C u.
    search_over c.args.graph.now c.args.choice.now C c.loop-i.i c.loop-i.trail.nodes (c.loop-i.invariant.search C u) (omega arith)
