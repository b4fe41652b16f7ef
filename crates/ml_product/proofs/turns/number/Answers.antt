use Rattle.ml_product.specs.private.Pools.{position_of}
use Rattle.ml_product.proofs.Numbering.{for_ok, for_err}
use Rattle.ml_product.proofs.turns.number.Goals as goal

pub returns-clause-ok : goal.returns-clause-ok
returns-clause-ok c =
    for_ok c.args.limit c.args.pool.now (position_of c.args.fresh) c.intern.new.self c.in_ok-number.number
    c.requires.few c.in_ok-number.ensures c.within.result c.within.ensures.ok

pub returns-clause-passed : goal.returns-clause-passed
returns-clause-passed c =
    for_err c.args.limit c.args.pool.now (position_of c.args.fresh) c.intern.new.self
    c.in_ok-number.number c.requires.few c.in_ok-number.ensures c.within.result c.within.ensures.passed
