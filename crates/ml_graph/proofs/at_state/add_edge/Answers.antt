use Rattle.std.proofs.Common.{sym, arith}
use Rattle.ml_graph.proofs.Places.{found_at}
use Rattle.ml_graph.proofs.EdgeRows.{one_added}
use Rattle.ml_graph.proofs.at_state.add_edge.Goals as goal

pub returns : goal.returns
returns c =
    let names = c.args.actions.now.keys in
    let place = found_at names c.requires.distinct c.args.edge.now.action c.in-Some.action
    (sym c.in-Some.ensures.index) in
    one_added names c.args.edge.now c.args.rows.now c.in-Some.action c.push.new.self c.index-rows-action.result
    (omega (arith, place.0, c.requires.fits)) place.1 c.in_ok-push.ensures.items
