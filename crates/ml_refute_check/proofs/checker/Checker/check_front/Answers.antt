use Rattle.std.proofs.Common.{refl, sym, subst}
use Rattle.ml_lists.specs.Ascending.{IsAscending}
use Rattle.ml_refute_check.specs.private.Parts.{question}
use Rattle.ml_refute_check.proofs.BranchesFound.{test_fails}
use Rattle.ml_refute_check.proofs.EntryFound.{start_told, live_told, live_low, front_refused_2, front_refused_3, front_later, front_kept}
use Rattle.ml_refute_check.proofs.checker.Checker.check_front.Goals as goal

pub starts_well-requires : goal.starts_well-requires
starts_well-requires c =
    subst IsAscending (sym c.sequent.ensures)
    c.requires.entry.is_entry.ascends

pub returns-then-not-starts_well : goal.returns-then-not-starts_well
returns-then-not-starts_well c =
    let q = question c.args.self.now.graph.now c.args.self.now.refutation.now in
    let told = start_told q _ _ c.requires.entry _ c.starts_well.result c.sequent.ensures c.starts_well.ensures in
    front_refused_2 q _ _ c.requires.entry (test_fails _ c.starts_well.result told c.if-not-starts_well.true)

pub names_stand-requires : goal.names_stand-requires
names_stand-requires c =
    live_low c.args.self.now.refutation.now.stacks c.args.self.now.refutation.now.names c.args.entry.now.live c.args.entry.now.items.items
    c.deref.result.now
    c.deref.ensures.value c.requires.entry.is_entry.is_traced

pub returns-then-not-branch : goal.returns-then-not-branch
returns-then-not-branch c =
    let q = question c.args.self.now.graph.now c.args.self.now.refutation.now in
    let is = c.requires.entry in
    let start = start_told q _ _ is _ c.starts_well.result c.sequent.ensures c.starts_well.ensures in
    let live =
    live_told q _ _ is c.args.self.now.refutation.now.stacks c.args.entry.now.live c.in_ok-names_stand.field-0 c.deref.ensures.value refl
    c.in_ok-names_stand.ensures in
    front_refused_3 q _ _ is (start.0 c.if-not-starts_well.false)
    (test_fails _ c.in_ok-names_stand.field-0 live c.if-not-branch.true)

pub returns-in_ok-later-in-Some : goal.returns-in_ok-later-in-Some
returns-in_ok-later-in-Some c =
    let q = question c.args.self.now.graph.now c.args.self.now.refutation.now in
    let is = c.requires.entry in
    let start = start_told q _ _ is _ c.starts_well.result c.sequent.ensures c.starts_well.ensures in
    let live =
    live_told q _ _ is c.args.self.now.refutation.now.stacks c.args.entry.now.live c.in_ok-names_stand.field-0 c.deref.ensures.value refl
    c.in_ok-names_stand.ensures in
    front_later q _ _ is c.in-Some.bad c.in_ok-later-in-Some.field-0
    (start.0 c.if-not-starts_well.false) (live.0 c.if-not-branch.false) c.in_ok-later-in-Some.ensures.part
    c.in_ok-later-in-Some.ensures.rule c.in-Some.ensures

pub returns-in-None : goal.returns-in-None
returns-in-None c =
    let q = question c.args.self.now.graph.now c.args.self.now.refutation.now in
    let is = c.requires.entry in
    let start = start_told q _ _ is _ c.starts_well.result c.sequent.ensures c.starts_well.ensures in
    let live =
    live_told q _ _ is c.args.self.now.refutation.now.stacks c.args.entry.now.live c.in_ok-names_stand.field-0 c.deref.ensures.value refl
    c.in_ok-names_stand.ensures in
    front_kept q _ _ is (start.0 c.if-not-starts_well.false) (live.0 c.if-not-branch.false)
    c.in-None.ensures
