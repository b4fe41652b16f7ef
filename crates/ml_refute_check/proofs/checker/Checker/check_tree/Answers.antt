use Rattle.std.proofs.Common.{◌<◌, [], All, IfOk, ap, subst, sym}
use Rattle.ml_graph.specs.Graph.{size}
use Rattle.ml_lists.specs.Ascending.{IsAscending}
use Rattle.ml_refutation.specs.Views.{decision_of}
use Rattle.ml_refute_check.specs.private.Parts.{question, plain_entry, Finds, Stands, branch_parts}
use Rattle.ml_refute_check.specs.private.Stepping.{list_at}
use Rattle.ml_refute_check.proofs.EntryFound.{start_stands}
use Rattle.ml_refute_check.proofs.checker.Checker.check_tree.Goals as goal

pub begin-requires-clause-low : goal.begin-requires-clause-low
begin-requires-clause-low c =
    let place = c.args.entry.now.sequent in
    subst (λ g. All (λ n. n < size g) (list_at c.args.branch.now.sequents place)) (sym c.requires.graph)
    (subst (λ qs. All (λ n. n < size c.args.self.now.graph.now) (list_at qs place)) (sym c.requires.sequents)
    c.requires.low)

pub begin-requires-clause-ascends : goal.begin-requires-clause-ascends
begin-requires-clause-ascends c =
    subst (λ qs. IsAscending (list_at qs c.args.entry.now.sequent)) (sym c.requires.sequents)
    c.requires.entry.is_entry.ascends

pub check_decision-requires-clause-stands : goal.check_decision-requires-clause-stands
check_decision-requires-clause-stands c =
    let q = question c.args.self.now.graph.now c.args.self.now.refutation.now in
    let nodes = list_at c.args.branch.now.sequents c.args.entry.now.sequent in
    let same = ap (λ qs. list_at qs c.args.entry.now.sequent) c.requires.sequents in
    subst (λ ns. Stands q c.args.place ns c.begin.new.self.on.spread) (sym c.in_ok-begin.ensures.sequent)
    (start_stands q c.args.place
    (plain_entry c.args.self.now.refutation.now c.args.entry.now) nodes [] c.begin.new.self.on.spread
    c.args.branch.now.on.graph c.requires.graph
    c.requires.entry same c.requires.low c.in_ok-begin.ensures.of c.in_ok-begin.ensures.is_spread)

pub returns-clause-found : goal.returns-clause-found
returns-clause-found c =
    let q = question c.args.self.now.graph.now c.args.self.now.refutation.now in
    subst (λ ch. IfOk c.check_decision.result (Finds q c.args.place (branch_parts ch (decision_of c.args.entry.now.decision))))
    c.in_ok-begin.ensures.of.choice c.check_decision.ensures.found
