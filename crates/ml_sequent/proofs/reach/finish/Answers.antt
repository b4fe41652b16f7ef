use Rattle.std.proofs.Common.{◌<◌, ◌≤◌, List, get_or, length, ap, subst, arith}
use Rattle.ml_lists.proofs.Member.{place-member}
use Rattle.ml_sequent.specs.declared.reach.Visit.{Visit}
use Rattle.ml_sequent.specs.private.Reach.{behind, IsVisited}
use Rattle.ml_sequent.proofs.Reaching.{node_low, search_goes_on, search_ends}
use Rattle.ml_sequent.proofs.reach.finish.Goals as goal

pub go_on-requires-clause-node : goal.go_on-requires-clause-node
go_on-requires-clause-node c =
    let i = c.loop-i.i in
    let d : Visit = record { node = 0; rank = 0 } in
    let first = ap length c.found.ensures.value in
    let second = ap length c.found-in-loop-i.ensures.value in
    let here : i < length c.found-in-loop-i.result.now = omega arith in
    node_low c.args.graph.now c.args.levels.now c.loop-i.reach (get_or c.found-in-loop-i.result.now i d) c.loop-i.invariant.room
    (c.found-in-loop-i.ensures.low (get_or c.found-in-loop-i.result.now i d) (place-member c.found-in-loop-i.result.now i d here)).1

pub loop-i-preserved : goal.loop-i-preserved
loop-i-preserved c =
    let g = c.args.graph.now in
    let i = c.loop-i.i in
    let d : Visit = record { node = 0; rank = 0 } in
    let first = ap length c.found.ensures.value in
    let low : i < length c.loop-i.reach.found = omega arith in
    let next = behind g c.args.choice.now c.args.levels.now.ranks c.args.floor in
    let visited = subst (λ (xs : List Visit). IsVisited (next (get_or xs i d)) c.loop-i.reach.found c.go_on.new.reach.found) c.found-in-loop-i.ensures.value c.in_ok-go_on.ensures.visited in
    record {
      room = c.in_ok-go_on.ensures.room;
      search = λ C begun. search_goes_on next C i c.loop-i.reach.found c.go_on.new.reach.found d (c.loop-i.invariant.search C begun) low visited;
    }

pub returns-clause-reached : goal.returns-clause-reached
returns-clause-reached c = λ C begun.
    let first = ap length c.found.ensures.value in
    let all : length c.loop-i.reach.found ≤ c.loop-i.i = omega arith in
    search_ends (behind c.args.graph.now c.args.choice.now c.args.levels.now.ranks c.args.floor) C c.loop-i.i c.loop-i.reach.found (c.loop-i.invariant.search C begun) all
