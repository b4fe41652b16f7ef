use Rattle.ml_pgsolver.proofs.OneFound.{found_or_refused, one_found, some_found}
use Rattle.ml_pgsolver.proofs.laws.one_finding.Goals as goal

pub returns : goal.returns
returns c = record { some = some_found; one = one_found; exclusive = found_or_refused }
