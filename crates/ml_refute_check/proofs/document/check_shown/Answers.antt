use Rattle.std.proofs.Common.{subst}
use Rattle.ml_refute_check.specs.Findings.{IsFinding}
use Rattle.ml_refute_check.specs.private.Parts.{plain}
use Rattle.ml_refute_check.proofs.Rejected.{as_many_lines, rejected_there}
use Rattle.ml_refute_check.proofs.document.check_shown.Goals as goal

pub line_of_fault-requires-clause-lines : goal.line_of_fault-requires-clause-lines
line_of_fault-requires-clause-lines c =
    let shown = c.args.shown.now in
    as_many_lines c.args._bytes.now shown.problem shown.refutation shown.lines c.requires

pub returns : goal.returns
returns c =
    let shown = c.args.shown.now in
    let fault = c.in-Rejected.fault in
    rejected_there c.args._bytes.now shown.problem shown.refutation shown.lines c.requires c.in-Ok.graph fault.entry
    fault.part fault.rule c.in_ok-line-in-Rejected.line c.in-Ok.ensures.graph c.in-Ok.ensures.fits
    (subst (IsFinding c.in-Ok.graph (plain shown.refutation)) c.in-Rejected.is
    c.in_ok-check_refutation.ensures)
    c.in_ok-line-in-Rejected.ensures
