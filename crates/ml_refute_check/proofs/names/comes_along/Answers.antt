use Rattle.std.proofs.Common.{get_or, refl, sym}
use Rattle.std.proofs.lemmas.Bool.{true≢false}
use Rattle.std.proofs.lemmas.List.{get_or_default}
use Rattle.ml_refutation.specs.declared.refutation.Item.{Item}
use Rattle.ml_refute_check.specs.private.Sources.{IsSource}
use Rattle.ml_refute_check.proofs.Sources.{no_item, none_at_all, none_more, entry_member}
use Rattle.ml_refute_check.proofs.names.comes_along.Goals as goal

pub returns-then-is_source : goal.returns-then-is_source
returns-then-is_source c =
    let x : Item = get_or c.args.items.now c.loop-item.item-index no_item in
    let is = get_or_default c.args.items.now c.loop-item.item-index no_item x c.loop-item-test.true in (
      λ t. record {
        item = x;
        member =
            entry_member (λ (item : Item). IsSource c.args.stacks.now c.args.odds.now c.args.trace.now c.args.name c.args.progress item
            c.args.behind.now)
            c.args.items.now c.loop-item.item-index x c.loop-item-test.true is;
        is_source = c.is_source.ensures.0 c.if-is_source.true;
      },
      λ h. refl,
    )

pub returns : goal.returns
returns c = (
  λ f. absurd (true≢false (sym f)),
  λ s. absurd (none_at_all (λ (item : Item). IsSource c.args.stacks.now c.args.odds.now c.args.trace.now c.args.name c.args.progress item c.args.behind.now)
      c.args.items.now c.loop-item.item-index c.loop-item-test.false c.loop-item.invariant s.item s.member s.is_source),
)

pub loop-item-preserved : goal.loop-item-preserved
loop-item-preserved c =
    let x : Item = get_or c.args.items.now c.loop-item.item-index no_item in
    none_more (λ (item : Item). IsSource c.args.stacks.now c.args.odds.now c.args.trace.now c.args.name c.args.progress item c.args.behind.now)
    c.args.items.now c.loop-item.item-index x c.is_source.result c.loop-item-test.true
    (get_or_default c.args.items.now c.loop-item.item-index no_item x c.loop-item-test.true) c.is_source.ensures c.if-is_source.false
    c.loop-item.invariant
