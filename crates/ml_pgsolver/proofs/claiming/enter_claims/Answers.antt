-- One entry after the other.
use Rattle.ml_pgsolver.proofs.RowClaims.{enter_step, row_stranger}
use Rattle.ml_pgsolver.proofs.claiming.enter_claims.Goals as goal

pub returns-in-None : goal.returns-in-None
returns-in-None c =
    row_stranger c.args.ids.now c.args.rows.now c.loop-row.row-index _ c.loop-row-test.true c.in-None.ensures

pub loop-row-preserved : goal.loop-row-preserved
loop-row-preserved c =
    enter_step c.args.ids.now c.args.rows.now c.loop-row.claims c.loop-row.row-index _ c.in-Some.vertex c.in-Some.claim
    c.loop-row-test.true c.requires.apart c.loop-row.invariant c.in-Some.ensures
