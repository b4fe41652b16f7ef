use Rattle.std.proofs.Common.{◌≡◌, ◌%◌, ◌↔◌, IsTrue, subst, arith}
use Rattle.ml_graph.specs.Graph.{priority_at}
use Rattle.ml_lists.specs.Member.{IsMember}
use Rattle.ml_sequent.proofs.Floors.{on_cycle}
use Rattle.ml_sequent.proofs.clashes.on_odd_cycle.Goals as goal

pub returns-clause-cycle : goal.returns-clause-cycle
returns-clause-cycle c =
    let g = c.args.graph.now in
    let n = c.args.node in
    let found = c.reach_behind.new.reach.found in
    let at = on_cycle g c.args.choice.now c.args.levels.now c.keeps.ensures.is_graph c.requires.ranked n found c.requires.node c.in_ok-reach_behind.ensures.reached in
    let has = subst (λ r. IsTrue c.has.result ↔ IsMember (record { node = n; rank = r }) found) c.rank.ensures c.has.ensures in
    let odd : priority_at g n % 2 ≡ 1 = omega (arith, c.priority.ensures, c.if-priority-eq0.false) in
    ((λ h. (odd, at.0 (has.0 h))), (λ o. has.1 (at.1 o.1)))
