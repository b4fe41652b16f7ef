use Rattle.std.proofs.Common.{ℕ, ◌+◌, get_or, sym, ap, ◌∙◌, subst, arith, List, Option, take}
use Rattle.ml_sequent.specs.private.Tests.{negative_prop, HasNegatives}
use Rattle.ml_sequent.proofs.Causes.{negative_prop-low, negatives_same, negatives_noted}
use Rattle.ml_sequent.proofs.clashes.negatives.Goals as goal
use Rattle.ml_sequent.proofs.clashes.negatives.Goals.{in-Some, in_default}

pub note-requires : goal.note-requires
note-requires c =
    let is = ap negative_prop (sym c.node.ensures) ∙ sym c.in-Some.ensures in
    let low =
    negative_prop-low c.args.graph.now c.keeps.ensures.is_graph (get_or c.args.nodes.now c.loop-node.node-index 0)
    (c.requires c.loop-node.node-index 0 c.loop-node-test.true) c.in-Some.prop is
    in
    omega (arith, low, c.loop-node.invariant.sizes)

pub loop-node-preserved : goal.loop-node-preserved
loop-node-preserved c =
    let nodes = c.args.nodes.now in
    let i = c.loop-node.node-index in
    elim c.match-negative_prop.branch [
      | in-Some w ↦ subst (λ (firsts : List (Option ℕ)). HasNegatives c.args.graph.now (take (i + 1) nodes) firsts)
          (sym (ap (λ v. v.items) w.firsts-is))
          (negatives_noted c.args.graph.now nodes i c.loop-node-test.true c.loop-node.firsts.items
          w.note.new.firsts.items w.in-Some.prop c.loop-node.invariant
          (ap negative_prop (sym c.node.ensures) ∙ sym w.in-Some.ensures) w.note.ensures.size w.note.ensures.noted
          w.note.ensures.others)
      | in_default w ↦ subst (λ (firsts : List (Option ℕ)). HasNegatives c.args.graph.now (take (i + 1) nodes) firsts)
          (sym (ap (λ v. v.items) w.firsts-is))
          (negatives_same c.args.graph.now nodes i c.loop-node-test.true c.loop-node.firsts.items c.loop-node.invariant
          (ap negative_prop (sym c.node.ensures) ∙ sym w.in_default.ensures))
    ]
