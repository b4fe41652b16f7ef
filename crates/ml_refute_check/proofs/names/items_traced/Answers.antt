use Rattle.std.proofs.Common.{get_or}
use Rattle.std.proofs.lemmas.List.{get_or_default}
use Rattle.ml_refutation.specs.declared.refutation.Item.{Item}
use Rattle.ml_refute_check.specs.private.Sources.{IsItemTraced, led}
use Rattle.ml_refute_check.proofs.FoundByNode.{traced_at}
use Rattle.ml_refute_check.proofs.Sources.{no_item, all_more, all_found, one_fails}
use Rattle.ml_refute_check.proofs.names.items_traced.Goals as goal

pub returns-then-not-item_traced : goal.returns-then-not-item_traced
returns-then-not-item_traced c =
    let item : Item = get_or c.args.behind.now c.loop-item.item-index no_item in
    let is = get_or_default c.args.behind.now c.loop-item.item-index no_item item c.loop-item-test.true in
    let told =
    traced_at c.args.stacks.now c.args.odds.now (led c.args.next.now c.args.traces.now) c.traces_into-arriving.result.now c.args.items.now item
    c.traces_into-arriving.ensures c.args.bound c.args.green c.item_traced.result c.item_traced.ensures in
    one_fails (IsItemTraced c.args.stacks.now c.args.odds.now (led c.args.next.now c.args.traces.now) c.args.bound c.args.green c.args.items.now)
    c.args.behind.now
    c.loop-item.item-index item c.item_traced.result c.loop-item-test.true is told c.if-not-item_traced.true

pub loop-item-preserved : goal.loop-item-preserved
loop-item-preserved c =
    let item : Item = get_or c.args.behind.now c.loop-item.item-index no_item in
    let is = get_or_default c.args.behind.now c.loop-item.item-index no_item item c.loop-item-test.true in
    let told =
    traced_at c.args.stacks.now c.args.odds.now (led c.args.next.now c.args.traces.now) c.traces_into-arriving.result.now c.args.items.now item
    c.traces_into-arriving.ensures c.args.bound c.args.green c.item_traced.result c.item_traced.ensures in
    all_more (IsItemTraced c.args.stacks.now c.args.odds.now (led c.args.next.now c.args.traces.now) c.args.bound c.args.green c.args.items.now)
    c.args.behind.now
    c.loop-item.item-index item c.item_traced.result c.loop-item-test.true is told
    c.if-not-item_traced.false c.loop-item.invariant

pub returns : goal.returns
returns c =
    all_found (IsItemTraced c.args.stacks.now c.args.odds.now (led c.args.next.now c.args.traces.now) c.args.bound c.args.green c.args.items.now)
    c.args.behind.now
    c.loop-item.item-index c.loop-item-test.false c.loop-item.invariant
