use Rattle.std.proofs.Common.{◌↔◌, IsTrue, subst}
use Rattle.ml_sequent.specs.Spread.{IsCause}
use Rattle.ml_refute_check.specs.private.Parts.{question}
use Rattle.ml_refute_check.proofs.BranchesFound.{clash_kept, clash_refused}
use Rattle.ml_refute_check.proofs.checker.Checker.check_clash.Goals as goal

pub returns-then-branch-clause-found : goal.returns-then-branch-clause-found
returns-then-branch-clause-found c =
    let told =
    subst (λ g. IsTrue c.in_ok-is_cause.field-0 ↔ IsCause g c.args.branch.now.on.spread c.args.cause) c.requires.graph
    c.in_ok-is_cause.ensures.cause in
    clash_kept (question c.args.self.now.graph.now c.args.self.now.refutation.now) c.args.place c.args.branch.now.on.sequent
    c.args.branch.now.on.spread c.requires.asks.is_graph c.requires.stands c.args.cause
    c.in_ok-is_cause.field-0 told c.if-branch.true

pub returns-else-branch-clause-found : goal.returns-else-branch-clause-found
returns-else-branch-clause-found c =
    let told =
    subst (λ g. IsTrue c.in_ok-is_cause.field-0 ↔ IsCause g c.args.branch.now.on.spread c.args.cause) c.requires.graph
    c.in_ok-is_cause.ensures.cause in
    clash_refused (question c.args.self.now.graph.now c.args.self.now.refutation.now) c.args.place c.args.branch.now.on.sequent
    c.args.branch.now.on.spread c.requires.asks.is_graph c.requires.stands c.args.cause
    c.in_ok-is_cause.field-0 told c.if-branch.false
