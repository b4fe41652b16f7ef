use Rattle.std.proofs.Common.{OnOk, List, ap, subst}
use Rattle.ml_sequent.specs.declared.reach.Visit.{Visit}
use Rattle.ml_sequent.specs.private.Reach.{behind, IsVisited, HasReached}
use Rattle.ml_sequent.proofs.Reaching.{finished, search_begins}
use Rattle.ml_sequent.proofs.reach.reach_behind.Goals as goal

pub returns-clause-reached : goal.returns-clause-reached
returns-clause-reached c =
    let floor = c.rank-floor.result in
    let next = behind c.args.graph.now c.args.choice.now c.args.levels.now.ranks floor in
    let first = next (record { node = c.args.node; rank = floor }) in
    let visited =
    subst (λ (found : List Visit). IsVisited first found c.go_on.new.reach.found) (ap (λ r. r.found) c.clear.ensures)
    c.in_ok-go_on.ensures.visited
    in
    subst
    (λ f. OnOk c.finish.result
    (HasReached (behind c.args.graph.now c.args.choice.now c.args.levels.now.ranks f)
    (behind c.args.graph.now c.args.choice.now c.args.levels.now.ranks f (record { node = c.args.node; rank = f }))
    c.finish.new.reach.found))
    c.rank-floor.ensures
    (finished next first 0 c.go_on.new.reach.found c.finish.new.reach.found c.finish.result c.finish.ensures.reached
    (search_begins next first c.go_on.new.reach.found visited))
