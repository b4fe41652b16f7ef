use Rattle.std.proofs.Common.{ℕ, ◌≡◌, ◌≤◌, List, Option, sym, subst, arith}
use Rattle.ml_graph.specs.Graph.{priority_at}
use Rattle.ml_lists.specs.Member.{IsMember}
use Rattle.ml_sequent.specs.private.ConnectedParts.{WalkList, entered, IsClosedIn, IsPart, Began}
use Rattle.ml_sequent.proofs.PathMeasures.{root_begins, on_ok}
use Rattle.ml_sequent.proofs.cycles.begin_at.Goals as goal

pub returns-in-New-clause-began : goal.returns-in-New-clause-began
returns-in-New-clause-began c =
    let g = c.args.graph.now in
    let ch = c.args.choice.now in
    let d = c.args.floor in
    let n = c.args.node in
    let x = c.args.parts.now in
    on_ok (c.enter.new.parts ≡ entered g ch d n x)
    ((nodes : List ℕ) (best : Option ℕ) → IsClosedIn g ch nodes → IsMember n nodes → IsPart g ch d nodes x best → Began g ch d nodes n x c.enter.new.parts best)
    c.enter.result
    (λ e nodes best closed inside part.
    let high : d ≤ priority_at g n = omega (arith, c.priority.ensures, c.if-priority-floor.false) in
    subst (λ (y : WalkList). Began g ch d nodes n x y best) (sym e) (root_begins g ch d nodes closed x n best part c.requires.over inside high (sym c.in-New.ensures)))
    c.enter.ensures.entered
