-- The number is that of a new position.
use Rattle.std.proofs.Common.{get_or}
use Rattle.ml_sequent.specs.Choice.{with_side}
use Rattle.ml_product.specs.Position.{Position}
use Rattle.ml_product.specs.private.Pools.{beside}
use Rattle.ml_product.specs.Placed.{nowhere}
use Rattle.ml_product.specs.private.Shared.{seen}
use Rattle.ml_product.proofs.Interning.{shown_at}
use Rattle.ml_product.proofs.Numbering.{beside_ok, for_err}
use Rattle.ml_product.proofs.turns.chosen.Goals as goal

pub add_chosen-requires-clause-number : goal.add_chosen-requires-clause-number
add_chosen-requires-clause-number c =
    let a = c.args.pool.now in
    (shown_at a.sequents.keys a.histories.keys a.positions c.args.v c.requires.number).0

pub add_chosen-requires-clause-unchosen : goal.add_chosen-requires-clause-unchosen
add_chosen-requires-clause-unchosen c =
    let a = c.args.pool.now in
    c.requires.unchosen (seen a.sequents.keys a.histories.keys (get_or a.positions c.args.v nowhere))
    (shown_at a.sequents.keys a.histories.keys a.positions c.args.v c.requires.number).1

pub returns-clause-ok : goal.returns-clause-ok
returns-clause-ok c =
    beside_ok c.args.limit c.args.pool.now c.args.v
    (λ (p : Position). beside p c.args.neutral (with_side p.choice c.args.node c.args.side)) c.add_chosen.new.self
    c.in_ok-number.number c.requires.few c.in_ok-number.ensures c.within.result c.within.ensures.ok

pub returns-clause-passed : goal.returns-clause-passed
returns-clause-passed c = λ e p at.
    for_err c.args.limit c.args.pool.now
    (beside p c.args.neutral (with_side p.choice c.args.node c.args.side)) c.add_chosen.new.self
    c.in_ok-number.number c.requires.few (c.in_ok-number.ensures p at) c.within.result c.within.ensures.passed e
