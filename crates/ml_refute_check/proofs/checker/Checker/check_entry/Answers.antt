use Rattle.std.proofs.Common.{[], refl, subst, arith}
use Rattle.std.proofs.lemmas.List.{length-map}
use Rattle.ml_refutation.specs.Views.{decision_of, item_of}
use Rattle.ml_refute_check.specs.private.Parts.{question, plain_entry, Finds, front_parts, branch_parts}
use Rattle.ml_refute_check.proofs.EntryFound.{front_starts, front_stands, whole_front, whole_later, whole_kept}
use Rattle.ml_refute_check.proofs.checker.Checker.check_entry.Goals as goal

pub returns-in-Some-clause-found : goal.returns-in-Some-clause-found
returns-in-Some-clause-found c =
    let q = question c.args.self.now.graph.now c.args.self.now.refutation.now in
    let entry = plain_entry c.args.self.now.refutation.now c.entry-entry.result.now in
    whole_front q c.args.place entry c.entry-entry.ensures c.in-Some.bad
    (subst (Finds q c.args.place (front_parts entry)) c.in-Some.is c.in_ok-bad.ensures)

pub check_tree-requires-clause-items : goal.check_tree-requires-clause-items
check_tree-requires-clause-items c =
    let q = question c.args.self.now.graph.now c.args.self.now.refutation.now in
    let entry = plain_entry c.args.self.now.refutation.now c.entry-entry.result.now in
    front_stands q c.args.place entry c.entry-entry.ensures c.args.self.now.refutation.now.stacks
    c.entry-entry.result.now.items.items refl
    (subst (Finds q c.args.place (front_parts entry)) c.in-None.is c.in_ok-bad.ensures)

pub check_tree-requires-clause-low : goal.check_tree-requires-clause-low
check_tree-requires-clause-low c =
    let q = question c.args.self.now.graph.now c.args.self.now.refutation.now in
    let entry = plain_entry c.args.self.now.refutation.now c.entry-entry.result.now in
    front_starts q c.args.place entry c.entry-entry.ensures
    (subst (Finds q c.args.place (front_parts entry)) c.in-None.is c.in_ok-bad.ensures)

pub returns-in_ok-later-in-Some-2-2-clause-found : goal.returns-in_ok-later-in-Some-2-2-clause-found
returns-in_ok-later-in-Some-2-2-clause-found c =
    let q = question c.args.self.now.graph.now c.args.self.now.refutation.now in
    let entry = plain_entry c.args.self.now.refutation.now c.entry-entry.result.now in
    let none = subst (Finds q c.args.place (front_parts entry)) c.in-None.is c.in_ok-bad.ensures in
    let found =
    subst (Finds q c.args.place (branch_parts [] (decision_of c.entry-entry.result.now.decision))) c.in-Some-2.is
    c.in_ok-bad-in-None.ensures.found in
    whole_later q c.args.place entry c.entry-entry.ensures c.len.result c.in-Some-2.bad c.in_ok-later-in-Some-2.field-0
    c.in_ok-later-in-Some-2-2.field-0
    (omega (arith, c.len.ensures, c.entry-entry.result.now.items.ok.0, length-map c.entry-entry.result.now.items.items (item_of c.args.self.now.refutation.now.stacks)))
    c.in_ok-later-in-Some-2.ensures.part c.in_ok-later-in-Some-2.ensures.rule c.in_ok-later-in-Some-2-2.ensures.part
    c.in_ok-later-in-Some-2-2.ensures.rule none found

pub returns-in-None-2-clause-found : goal.returns-in-None-2-clause-found
returns-in-None-2-clause-found c =
    let q = question c.args.self.now.graph.now c.args.self.now.refutation.now in
    let entry = plain_entry c.args.self.now.refutation.now c.entry-entry.result.now in
    let none = subst (Finds q c.args.place (front_parts entry)) c.in-None.is c.in_ok-bad.ensures in
    let others =
    subst (Finds q c.args.place (branch_parts [] (decision_of c.entry-entry.result.now.decision))) c.in-None-2.is
    c.in_ok-bad-in-None.ensures.found in
    whole_kept q c.args.place entry c.entry-entry.ensures none others
