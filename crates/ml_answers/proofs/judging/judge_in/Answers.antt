use Rattle.std.proofs.Common.{subst}
use Rattle.ml_refute_check.specs.Findings.{IsFinding}
use Rattle.ml_answers.specs.private.Plain.{plain}
use Rattle.ml_answers.proofs.Refuted.{accepted_here, rejected_here}
use Rattle.ml_answers.proofs.judging.judge_in.Goals as goal

pub returns-in-Ok-Accepted : goal.returns-in-Ok-Accepted
returns-in-Ok-Accepted c =
    accepted_here c.args._problem.now c.args.graph.now (plain c.args.refutation.now) c.requires.held c.requires.small
    c.requires.graph
    (subst (IsFinding c.args.graph.now (plain c.args.refutation.now)) c.in-Ok-Accepted.field-0-is c.in-Ok-Accepted.ensures)

pub returns-in-Ok-Rejected : goal.returns-in-Ok-Rejected
returns-in-Ok-Rejected c =
    rejected_here c.args._problem.now c.args.graph.now (plain c.args.refutation.now) c.requires.held c.requires.small
    c.requires.graph c.in-Ok-Rejected.field-0-0
    (subst (IsFinding c.args.graph.now (plain c.args.refutation.now)) c.in-Ok-Rejected.field-0-is c.in-Ok-Rejected.ensures)
