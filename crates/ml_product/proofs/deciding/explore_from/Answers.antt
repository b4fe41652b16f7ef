-- Where no side is chosen next, no position with a choice came.
use Rattle.std.proofs.Common.{subst}
use Rattle.ml_graph.specs.Graph.{Graph}
use Rattle.ml_product.specs.private.Exploring.{IsEnded, IsTurnOf, IsExplored}
use Rattle.ml_product.proofs.Roots.{rooted_ended}
use Rattle.ml_product.proofs.Underway.{ended_explored}
use Rattle.ml_product.proofs.deciding.explore_from.Goals as goal

ended : (c : goal.In_ok-record-in-Ended) → IsEnded c.args.branch.now.graph c.args.limit c.args.pool.now c.args.v
    c.take_turn.new.pool c.in-Ended.found
ended c =
    subst (λ (g : Graph). IsEnded g c.args.limit c.args.pool.now c.args.v c.take_turn.new.pool c.in-Ended.found)
    c.begin_at.ensures.graph
    (subst (IsTurnOf c.begin_at.new.branch.graph c.args.limit c.args.pool.now c.args.v c.begin_at.new.branch.spread
    c.take_turn.new.pool) c.in-Ended.is c.in_ok-found.ensures.turned)

explored : (c : goal.In_ok-record-in-Ended) → IsExplored c.args.branch.now.graph c.args.limit c.args.pool.now
    c.args.turns.now c.args.v c.take_turn.new.pool c.record.new.self
explored c =
    ended_explored c.args.branch.now.graph c.args.limit c.args.pool.now c.take_turn.new.pool c.args.turns.now
    c.record.new.self c.args.v c.in-Ended.found c.requires.underway c.requires.number (ended c)
    c.in_ok-record-in-Ended.ensures

pub returns-in_ok-record-in-Ended-clause-explored : goal.returns-in_ok-record-in-Ended-clause-explored
returns-in_ok-record-in-Ended-clause-explored c = explored c

pub returns-in_ok-record-in-Ended-clause-rooted : goal.returns-in_ok-record-in-Ended-clause-rooted
returns-in_ok-record-in-Ended-clause-rooted c =
    rooted_ended c.args.branch.now.graph c.args.limit c.args.pool.now c.take_turn.new.pool c.args.turns.now
    c.record.new.self c.args.trees.now.sites.keys c.args.trees.now.tops.items c.args.v c.requires.rooted (explored c)
    (ended c).unchosen
