-- The lines tell what was found of the family's problem.
use Rattle.std.proofs.Common.{◌∙◌, ap}
use Rattle.ml_driver.specs.Bench as measures
use Rattle.ml_driver.proofs.bench.measured.Goals as goal

pub returns-clause-answer : goal.returns-clause-answer
returns-clause-answer c = record {
  problem = c.args.problem.now;
  finding = c.in_ok-finding.finding;
  is_meant = c.requires.meant;
  is_finding = c.in_ok-finding.ensures;
  status_is = c.status_of-status.ensures.status ∙ ap measures.status_of c.answer.ensures;
  is_written =
      c.in_ok-report.ensures
      ∙ ap (λ k. measures.bench_text c.args.family c.args.n k c.in_ok-finding.finding) c.occurrences-count.ensures.number;
}
