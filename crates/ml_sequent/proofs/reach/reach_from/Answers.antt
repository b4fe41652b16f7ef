use Rattle.std.proofs.Common.{OnOk, [], ◌∷◌, List, ap, subst}
use Rattle.ml_sequent.specs.declared.reach.Visit.{Visit}
use Rattle.ml_sequent.specs.private.Reach.{behind, ranked, IsVisited, HasReached}
use Rattle.ml_sequent.proofs.Floors.{all_above}
use Rattle.ml_sequent.proofs.Reaching.{finished, search_begins}
use Rattle.ml_sequent.proofs.reach.reach_from.Goals as goal

pub returns-clause-reached : goal.returns-clause-reached
returns-clause-reached c =
    let next = behind c.args.graph.now c.args.choice.now c.args.levels.now.ranks 0 in
    let first = ranked c.args.levels.now.ranks c.args.node ∷ [] in
    let empty =
    subst
    (λ (found : List Visit).
    IsVisited (record { node = c.args.node; rank = c.rank.result } ∷ []) found c.visit.new.self.found)
    (ap (λ r. r.found) c.clear.ensures) c.in_ok-visit.ensures.visited
    in
    let visited = subst (λ r. IsVisited (record { node = c.args.node; rank = r } ∷ []) [] c.visit.new.self.found) c.rank.ensures empty in
    subst (λ (f : Visit → List Visit). OnOk c.finish.result (HasReached f first c.finish.new.reach.found))
    (all_above c.args.graph.now c.args.choice.now c.args.levels.now.ranks)
    (finished next first 0 c.visit.new.self.found c.finish.new.reach.found c.finish.result c.finish.ensures.reached
    (search_begins next first c.visit.new.self.found visited))
