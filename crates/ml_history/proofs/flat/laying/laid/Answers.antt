use Rattle.std.proofs.Common.{[], ◌++◌, ◌∙◌, map, take, ap, sym, subst, arith}
use Rattle.ml_history.specs.Stacks.{stacked}
use Rattle.ml_history.specs.private.Arrays.{AreLaidOut}
use Rattle.ml_history.proofs.arrays.ItemByItem.{laid_next, take_whole}
use Rattle.ml_history.proofs.arrays.StackLayout.{laid_none, laid_read, laid_itself}
use Rattle.ml_history.proofs.flat.laying.laid.Goals as goal

pub loop-item-init : goal.loop-item-init
loop-item-init c =
    subst (λ ss. AreLaidOut ss c.in_ok-starts.starts.items c.new-names.result.items [])
    (sym c.in_ok-states.ensures.items)
    (subst (λ bs. AreLaidOut [] bs c.new-names.result.items []) (sym c.in_ok-starts.ensures.items)
    (subst (λ ns. AreLaidOut [] [] ns []) (sym c.new-names.ensures.items) laid_none))

pub loop-item-preserved : goal.loop-item-preserved
loop-item-preserved c =
    laid_next c.args.all.now c.loop-item.item-index c.item-item.result c.loop-item.states.items c.loop-item.starts.items
    c.loop-item.names.items _ _ _ c.len.result
    c.loop-item-test.true c.item-item.is c.loop-item.invariant c.in_ok-push.ensures.items c.in_ok-push-2.ensures.items
    (omega (arith, c.len.ensures, c.loop-item.names.ok.0))
    (c.in_ok-extend_from_slice.ensures.items ∙ ap (λ s. c.loop-item.names.items ++ s) c.as_slice.ensures.value)

pub of-requires : goal.of-requires
of-requires c =
    laid_itself c.loop-item.states.items c.loop-item.starts.items c.loop-item.names.items
    (map stacked (take c.loop-item.item-index c.args.all.now)) c.loop-item.invariant

pub returns : goal.returns
returns c =
    c.of.ensures
    ∙ laid_read c.loop-item.states.items c.loop-item.starts.items c.loop-item.names.items
    (map stacked (take c.loop-item.item-index c.args.all.now)) c.loop-item.invariant
    ∙ ap (map stacked) (take_whole c.args.all.now c.loop-item.item-index (omega (arith, c.loop-item-test.false)))
