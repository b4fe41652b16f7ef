use Rattle.std.proofs.Common.{OnOk, List, ◌∷◌, map, length, ap, subst}
use Rattle.ml_sequent.specs.declared.reach.Visit.{Visit}
use Rattle.ml_sequent.specs.private.Reach.{behind, unranked, HasReached}
use Rattle.ml_sequent.proofs.Floors.{all_above}
use Rattle.ml_sequent.proofs.Reaching.{finished}
use Rattle.ml_sequent.proofs.LongerSearches.{search_continued}
use Rattle.ml_sequent.proofs.reach.reach_more.Goals as goal

pub returns-clause-reached : goal.returns-clause-reached
returns-clause-reached c =
    let g = c.args.graph.now in
    let ranks = c.args.levels.now.ranks in
    let next = behind g c.args.choice.now ranks 0 in
    let first = map unranked (c.args.child ∷ c.args.nodes.now) in
    let done = length c.found-done.result.now in
    let begun = search_continued g c.args.choice.now ranks c.args.nodes.now c.args.child c.visit_all.new.reach.found c.visit.new.self.found done
    (ap length c.found-done.ensures.value) c.requires.closed c.in_ok-visit_all.ensures.visited c.in_ok-visit.ensures.visited in
    subst (λ (f : Visit → List Visit). OnOk c.finish.result (HasReached f first c.finish.new.reach.found)) (all_above g c.args.choice.now ranks)
    (finished next first done c.visit.new.self.found c.finish.new.reach.found c.finish.result c.finish.ensures.reached begun)
