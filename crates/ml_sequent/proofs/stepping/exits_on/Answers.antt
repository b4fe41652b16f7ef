use Rattle.std.proofs.Common.{ℕ, ◌<◌, ◌∙◌, length, ap, sym, arith}
use Rattle.std.specs.Global.{Vec}
use Rattle.ml_sequent.specs.private.Exits.{exit_at}
use Rattle.ml_sequent.proofs.Traces.{leading_more, leading_same}
use Rattle.ml_sequent.proofs.stepping.exits_on.Goals as goal
use Rattle.ml_sequent.proofs.stepping.exits_on.Goals.{in-Some+in_ok-push, in_default}

pub loop-place-preserved : goal.loop-place-preserved
loop-place-preserved c =
    let trail = c.args.trail.now.nodes in
    let i = c.loop-place.place in
    let h = exit_at c.args.graph.now c.action_of-action.result c.args.diamond in
    let low : i < length trail = omega arith in
    let here = sym (ap h c.node-in-loop-place.ensures.value) ∙ sym c.exit_of.ensures in
    elim c.match-exit_of.branch [
      | in-Some+in_ok-push w ↦
          ap (λ (v : Vec ℕ). v.items) w.nodes-is ∙ w.in_ok-push.ensures.items
          ∙ leading_more h trail c.loop-place.nodes.items i low c.loop-place.invariant w.in-Some.to (here ∙ w.in-Some.is)
      | in_default w ↦
          ap (λ (v : Vec ℕ). v.items) w.nodes-is ∙ leading_same h trail c.loop-place.nodes.items i low c.loop-place.invariant (here ∙ w.in_default.is)
    ]
