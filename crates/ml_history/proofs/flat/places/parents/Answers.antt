use Rattle.std.proofs.Common.{◌≡◌, ◌∙◌, get_or, ap, arith}
use Rattle.std.proofs.Math.ListN.{set, length-set}
use Rattle.ml_history.specs.HistoryStep.{last_name, live}
use Rattle.ml_history.specs.private.Keys.{stack_at}
use Rattle.ml_history.specs.private.Line.{before_last}
use Rattle.ml_history.proofs.arrays.OrderOfNames.{last-low, parents_next, parents_all}
use Rattle.ml_history.proofs.flat.places.parents.Goals as goal

pub loop-i-init : goal.loop-i-init
loop-i-init c = (
  omega (arith, c.in_ok-parents.ensures.len, c.in_ok-parents.parents.ok.0, c.live-live.ensures),
  λ j low. absurd (omega arith),
)

pub index_mut-requires : goal.index_mut-requires
index_mut-requires c =
    let low = last-low c.args.history.now c.requires.history c.loop-i.i
    (omega (arith, c.loop-i-test.true, c.len-i-end.ensures)) in
    let is = c.last_name.ensures ∙ ap last_name c.stack-stack.ensures in
    omega (arith, low, is, c.loop-i.invariant.0, c.loop-i.parents.ok.0)

pub loop-i-preserved : goal.loop-i-preserved
loop-i-preserved c =
    let h = c.args.history.now in
    let i = c.loop-i.i in
    let at : c.last_name.result ≡ last_name (stack_at h i) = c.last_name.ensures ∙ ap last_name c.stack-stack.ensures in
    let to : c.before_last.result ≡ before_last (live h) (stack_at h i) = c.before_last.ensures
    ∙ (λ k. before_last (c.live-live.ensures k) (c.stack-stack.ensures k)) in (
      length-set c.loop-i.parents.items c.last_name.result c.before_last.result ∙ c.loop-i.invariant.0,
      λ j low.
          (λ k. get_or (set c.loop-i.parents.items (at k) (to k)) (last_name (stack_at h j)) 0)
          ∙ parents_next h c.requires.history c.loop-i.parents.items i
          (omega (arith, c.loop-i-test.true, c.len-i-end.ensures)) c.loop-i.invariant.0 c.loop-i.invariant.1 j low,
    )

pub returns : goal.returns
returns c = parents_all c.args.history.now c.loop-i.parents.items c.loop-i.i
    (omega (arith, c.loop-i-test.false, c.len-i-end.ensures)) c.loop-i.invariant.0 c.loop-i.invariant.1
