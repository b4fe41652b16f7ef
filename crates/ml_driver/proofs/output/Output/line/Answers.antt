use Rattle.ml_driver.specs.Said.{as_line}
use Rattle.ml_driver.proofs.output.Output.line.Goals as goal

pub returns-clause-told : goal.returns-clause-told
returns-clause-told c = λ text. as_line (c.status.ensures, c.in_ok-line.ensures)
