-- So many places were made.
use Rattle.ml_pgsolver.specs.private.Claiming.{AreNoClaims}
use Rattle.ml_pgsolver.proofs.claiming.no_claims.Given as goal

abbrev pub invariant-loop : goal.invariant-loop
invariant-loop l = AreNoClaims l.claims.items l.counter
