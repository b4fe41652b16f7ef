use Rattle.std.proofs.Common.{◌∙◌, refl}
use Rattle.ml_refute_check.specs.private.Parts.{question}
use Rattle.ml_refute_check.proofs.BranchesFound.{test_fails, go_kept, go_refused_9, go_refused_10}
use Rattle.ml_refute_check.proofs.EntryFound.{odds_ascend}
use Rattle.ml_refute_check.proofs.FoundByNode.{rise_by_node}
use Rattle.ml_refute_check.proofs.GoFound.{at_go, names_told, falls_told}
use Rattle.ml_refute_check.proofs.checker.Checker.check_step.Goals as goal

pub keeps_names-requires-clause-odds : goal.keeps_names-requires-clause-odds
keeps_names-requires-clause-odds c =
    odds_ascend c.args.self.now.graph.now c.deref.result.now (c.deref.ensures.value ∙ c.requires.asks.odds_are)

pub keeps_names-requires-clause-items : goal.keeps_names-requires-clause-items
keeps_names-requires-clause-items c =
    rise_by_node c.args.self.now.refutation.now.stacks c.args.entry.now.items.items c.requires.entry.is_entry.is_traced.ascend

pub returns-then-not-keeps_names : goal.returns-then-not-keeps_names
returns-then-not-keeps_names c = λ nodes sp stands diamond within step.
    let q = question c.args.self.now.graph.now c.args.self.now.refutation.now in
    let ok = c.requires.asks.is_graph in
    let m = c.args.mark in
    let d = c.args.step.now.diamond in
    let w = at_go stands ok c.entry-behind.ensures refl step in
    let names =
    names_told w c.requires.entry m c.keeps_names.result c.args.entry.now.items.items (c.deref.ensures.value ∙ c.requires.asks.odds_are)
    c.sequent.ensures c.deref-2.ensures.value c.requires.sources
    c.keeps_names.ensures in
    go_refused_9 q _ _ _ ok stands d c.args.target m diamond within
    (test_fails _ c.keeps_names.result names c.if-not-keeps_names.true)

pub returns-then-not-heights_fall : goal.returns-then-not-heights_fall
returns-then-not-heights_fall c = λ nodes sp stands diamond within step.
    let q = question c.args.self.now.graph.now c.args.self.now.refutation.now in
    let ok = c.requires.asks.is_graph in
    let m = c.args.mark in
    let d = c.args.step.now.diamond in
    let w = at_go stands ok c.entry-behind.ensures refl step in
    let names =
    names_told w c.requires.entry m c.keeps_names.result c.args.entry.now.items.items (c.deref.ensures.value ∙ c.requires.asks.odds_are)
    c.sequent.ensures c.deref-2.ensures.value c.requires.sources
    c.keeps_names.ensures in
    let falls =
    falls_told c.requires.entry c.entry-behind.ensures m c.heights_fall.result c.mark_priority.ensures
    c.deref-3.ensures.value c.deref-4.ensures.value c.heights_fall.ensures in
    go_refused_10 q _ _ _ ok stands d c.args.target m diamond within
    (names.0 c.if-not-keeps_names.false) (test_fails _ c.heights_fall.result falls c.if-not-heights_fall.true)

pub returns : goal.returns
returns c = λ nodes sp stands diamond within step.
    let q = question c.args.self.now.graph.now c.args.self.now.refutation.now in
    let ok = c.requires.asks.is_graph in
    let m = c.args.mark in
    let d = c.args.step.now.diamond in
    let w = at_go stands ok c.entry-behind.ensures refl step in
    let names =
    names_told w c.requires.entry m c.keeps_names.result c.args.entry.now.items.items (c.deref.ensures.value ∙ c.requires.asks.odds_are)
    c.sequent.ensures c.deref-2.ensures.value c.requires.sources
    c.keeps_names.ensures in
    let falls =
    falls_told c.requires.entry c.entry-behind.ensures m c.heights_fall.result c.mark_priority.ensures
    c.deref-3.ensures.value c.deref-4.ensures.value c.heights_fall.ensures in
    go_kept q _ _ _ ok stands d c.args.target m diamond within
    (names.0 c.if-not-keeps_names.false) (falls.0 c.if-not-heights_fall.false)
