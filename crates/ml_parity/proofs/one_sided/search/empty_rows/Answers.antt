-- All rows are empty.
use Rattle.ml_parity.proofs.HeightTables.{all_empty}
use Rattle.ml_parity.proofs.one_sided.search.empty_rows.Goals as goal

pub returns-clause-empty : goal.returns-clause-empty
returns-clause-empty c = all_empty c.loop.rows.items c.loop.invariant.empty
