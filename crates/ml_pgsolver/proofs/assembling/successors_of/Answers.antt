use Rattle.std.proofs.lemmas.Iterator.Adapters.{YieldsList-from_vec}
use Rattle.std.proofs.lemmas.Iterator.Consumers.{YieldsList-turn}
use Rattle.ml_pgsolver.proofs.Places.{given_none, given_more, unknown_in}
use Rattle.ml_pgsolver.proofs.assembling.successors_of.Goals as goal

pub loop-row-init : goal.loop-row-init
loop-row-init c =
    (tt, tt, given_none c.args.ids.now _ c.in_ok-given.ensures.items)

pub loop-row-preserved : goal.loop-row-preserved
loop-row-preserved c = (
  tt,
  tt,
  given_more c.args.ids.now c.loop-row.given.items c.loop-row.yielded c.in-Some.row c.in-Some-places_of.places
      c.push.new.self.items c.loop-row.invariant.2 c.in-Some-places_of.ensures c.in_ok-push.ensures.items,
)

pub returns-in_default : goal.returns-in_default
returns-in_default c =
    let turn =
    YieldsList-turn (YieldsList-from_vec c.args.rows.items (cc) (cc)) c.loop-row.yielded c.loop-row.row-iterator
    c.loop-row.yielded_by c.next.result c.next.new.self c.in-Some.row c.in-Some.is c.next.ensures.steps
    in unknown_in c.args.ids.now c.args.rows.items _ c.in-Some.row turn.0 turn.1 c.in_default.ensures
