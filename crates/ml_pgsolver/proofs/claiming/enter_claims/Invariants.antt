-- The entries before the place were entered.
use Rattle.std.proofs.Common.{take}
use Rattle.ml_pgsolver.specs.private.Claiming.{AreRowClaims}
use Rattle.ml_pgsolver.proofs.claiming.enter_claims.Given as goal

abbrev pub invariant-loop-row : goal.invariant-loop-row
invariant-loop-row l = AreRowClaims l.ids (take l.row-index l.rows) l.claims
