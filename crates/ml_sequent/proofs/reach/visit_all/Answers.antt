use Rattle.std.proofs.Common.{ℕ, ◌∙◌, List, [], ◌<◌, get_or, map, subst, arith}
use Rattle.std.proofs.lemmas.List.{take_all}
use Rattle.ml_graph.specs.Graph.{size}
use Rattle.ml_sequent.specs.private.Reach.{unranked, IsVisited}
use Rattle.ml_sequent.proofs.Reaching.{has_room, some_rank, visited_more}
use Rattle.ml_sequent.proofs.reach.visit_all.Goals as goal

pub visit-requires-clause-room : goal.visit-requires-clause-room
visit-requires-clause-room c =
    let n = get_or c.args.nodes.now c.loop-node.node-index 0 in
    let low : n < size c.args.graph.now = c.requires.nodes c.loop-node.node-index 0 c.loop-node-test.true in
    (has_room c.args.graph.now c.args.levels.now c.loop-node.reach n 0 c.loop-node.invariant.room low
    (some_rank c.args.graph.now c.args.levels.now n c.requires.ranked low)).1

pub loop-node-preserved : goal.loop-node-preserved
loop-node-preserved c = record {
  room =
      record {
        width = c.in_ok-visit.ensures.width ∙ c.loop-node.invariant.room.width;
        room = c.in_ok-visit.ensures.room ∙ c.loop-node.invariant.room.room;
      };
  visited =
      visited_more c.args.nodes.now c.loop-node.node-index unranked c.loop-node.reach.found c.visit.new.self.found
      c.loop-node-test.true c.loop-node.invariant.visited c.in_ok-visit.ensures.visited;
}

pub returns-clause-visited : goal.returns-clause-visited
returns-clause-visited c =
    let all = take_all c.loop-node.node-index c.args.nodes.now (omega arith) in
    subst (λ (ks : List ℕ). IsVisited (map unranked ks) [] c.loop-node.reach.found) all c.loop-node.invariant.visited
