use Rattle.std.proofs.Common.{arith}
use Rattle.ml_pgsolver.specs.Refusals.{greatest_number}
use Rattle.ml_pgsolver.proofs.Highest.{highest-small, least_even}
use Rattle.ml_pgsolver.proofs.assembling.least_even_from.Goals as goal

pub overflow_add-result : goal.overflow_add-result
overflow_add-result c = let low = highest-small c.args.rows.now greatest_number c.requires in omega arith

pub returns : goal.returns
returns c = least_even c.args.rows.now c.highest_priority-highest.result c.highest_priority-highest.ensures
