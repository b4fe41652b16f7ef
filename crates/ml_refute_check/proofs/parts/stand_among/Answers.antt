use Rattle.std.proofs.Common.{get_or}
use Rattle.std.proofs.lemmas.List.{get_or_default}
use Rattle.ml_lists.specs.Member.{IsMember}
use Rattle.ml_refutation.specs.declared.refutation.Item.{Item}
use Rattle.ml_refute_check.proofs.Sources.{no_item, all_more, all_found, one_fails}
use Rattle.ml_refute_check.proofs.parts.stand_among.Goals as goal

pub returns-then-not-has_number : goal.returns-then-not-has_number
returns-then-not-has_number c =
    let item : Item = get_or c.args.items.now c.loop-item.item-index no_item in
    let is = get_or_default c.args.items.now c.loop-item.item-index no_item item c.loop-item-test.true in
    one_fails (λ (a : Item). IsMember a.node c.args.nodes.now) c.args.items.now c.loop-item.item-index item
    c.has_number.result c.loop-item-test.true is c.has_number.ensures c.if-not-has_number.true

pub loop-item-preserved : goal.loop-item-preserved
loop-item-preserved c =
    let item : Item = get_or c.args.items.now c.loop-item.item-index no_item in
    let is = get_or_default c.args.items.now c.loop-item.item-index no_item item c.loop-item-test.true in
    all_more (λ (a : Item). IsMember a.node c.args.nodes.now) c.args.items.now c.loop-item.item-index item
    c.has_number.result c.loop-item-test.true is c.has_number.ensures c.if-not-has_number.false c.loop-item.invariant

pub returns : goal.returns
returns c =
    all_found (λ (a : Item). IsMember a.node c.args.nodes.now) c.args.items.now c.loop-item.item-index
    c.loop-item-test.false c.loop-item.invariant
