use Rattle.std.proofs.Common.{◌≤◌, ◌∙◌, List, length, get_or, subst, sym}
use Rattle.std.proofs.lemmas.List.{get_or_default}
use Rattle.ml_lists.specs.Ascending.{IsAscending}
use Rattle.ml_refutation.specs.declared.refutation.Item.{Item}
use Rattle.ml_refute_check.specs.private.Parts.{question}
use Rattle.ml_refute_check.proofs.Sources.{no_item}
use Rattle.ml_refute_check.proofs.BranchesFound.{test_fails}
use Rattle.ml_refute_check.proofs.EntryFound.{item_told, items_more, items_first, items_all, no_items, odds_ascend}
use Rattle.ml_refute_check.proofs.checker.Checker.check_items.Goals as goal

pub loop-k-init : goal.loop-k-init
loop-k-init c = no_items (question c.args.self.now.graph.now c.args.self.now.refutation.now) c.args.place

pub item_stands-requires-clause-sequent : goal.item_stands-requires-clause-sequent
item_stands-requires-clause-sequent c =
    subst IsAscending (sym c.sequent.ensures) c.requires.entry.is_entry.ascends

pub item_stands-requires-clause-odds : goal.item_stands-requires-clause-odds
item_stands-requires-clause-odds c =
    odds_ascend c.args.self.now.graph.now c.deref.result.now
    (c.deref.ensures.value ∙ c.requires.asks.odds_are)

pub loop-k-preserved : goal.loop-k-preserved
loop-k-preserved c =
    let q = question c.args.self.now.graph.now c.args.self.now.refutation.now in
    let items = c.deref-item-items.result.now in
    let item : Item = get_or items c.loop-k.k no_item in
    let is = get_or_default items c.loop-k.k no_item item c.loop-k-test.true in
    let told =
    item_told q c.args.place c.args.self.now.refutation.now.stacks c.requires.entry item c.item_stands.result c.sequent.ensures
    (c.deref.ensures.value ∙ c.requires.asks.odds_are) c.item_stands.ensures in
    items_more q c.args.place c.args.self.now.refutation.now.stacks c.loop-k.k c.deref-item-items.ensures.value c.loop-k-test.true is
    (told.0 c.if-not-item_stands.false) c.loop-k.invariant

pub returns-then-not-item_stands : goal.returns-then-not-item_stands
returns-then-not-item_stands c =
    let q = question c.args.self.now.graph.now c.args.self.now.refutation.now in
    let items = c.deref-item-items.result.now in
    let item : Item = get_or items c.loop-k.k no_item in
    let is = get_or_default items c.loop-k.k no_item item c.loop-k-test.true in
    let told =
    item_told q c.args.place c.args.self.now.refutation.now.stacks c.requires.entry item c.item_stands.result c.sequent.ensures
    (c.deref.ensures.value ∙ c.requires.asks.odds_are) c.item_stands.ensures in
    items_first q c.args.place c.args.self.now.refutation.now.stacks c.loop-k.k c.deref-item-items.ensures.value c.loop-k-test.true is
    (test_fails _ c.item_stands.result told c.if-not-item_stands.true) c.loop-k.invariant

pub returns : goal.returns
returns c =
    let past =
    subst (λ (ys : List Item). length ys ≤ c.loop-k.k) c.deref-item-items.ensures.value c.loop-k-test.false in
    items_all (question c.args.self.now.graph.now c.args.self.now.refutation.now) c.args.place c.args.self.now.refutation.now.stacks
    c.args.entry.now.items.items c.loop-k.k past c.loop-k.invariant
