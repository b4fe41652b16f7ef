use Rattle.std.proofs.Common.{OnOk, List, map, subst}
use Rattle.ml_sequent.specs.declared.reach.Visit.{Visit}
use Rattle.ml_sequent.specs.private.Reach.{behind, unranked, HasReached}
use Rattle.ml_sequent.proofs.Floors.{all_above}
use Rattle.ml_sequent.proofs.Reaching.{finished, search_begins}
use Rattle.ml_sequent.proofs.reach.reach_all.Goals as goal

pub returns-clause-reached : goal.returns-clause-reached
returns-clause-reached c =
    let g = c.args.graph.now in
    let ranks = c.args.levels.now.ranks in
    let next = behind g c.args.choice.now ranks 0 in
    let found = c.visit_all.new.reach.found in
    subst (λ (f : Visit → List Visit). OnOk c.finish.result (HasReached f (map unranked c.args.nodes.now) c.finish.new.reach.found)) (all_above g c.args.choice.now ranks)
    (finished next (map unranked c.args.nodes.now) 0 found c.finish.new.reach.found c.finish.result c.finish.ensures.reached
    (search_begins next (map unranked c.args.nodes.now) found c.in_ok-visit_all.ensures.visited))
