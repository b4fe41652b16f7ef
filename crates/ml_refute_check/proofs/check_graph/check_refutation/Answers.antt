use Rattle.std.proofs.Common.{subst}
use Rattle.std.specs.Result.{IfOk}
use Rattle.ml_refute_check.specs.Findings.{IsFinding}
use Rattle.ml_refute_check.specs.private.Parts.{plain}
use Rattle.ml_refute_check.proofs.check_graph.check_refutation.Goals as goal

pub returns : goal.returns
returns c =
    let checker = c.in_ok-checker.checker in
    subst (λ g. IfOk c.check_entries.result (IsFinding g (plain c.args.refutation.now))) c.in_ok-checker.ensures.graph
    (subst (λ r. IfOk c.check_entries.result (IsFinding checker.graph.now (plain r))) c.in_ok-checker.ensures.refutation
    c.check_entries.ensures)
