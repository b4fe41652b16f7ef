use Rattle.std.proofs.Common.{◌<◌, length, arith}
use Rattle.std.proofs.lemmas.Result.{IfOk-weaker}
use Rattle.ml_sequent.proofs.MarkedNodes.{nodes_found}
use Rattle.ml_sequent.proofs.reach.Reach.nodes.Goals as goal

pub returns-then-len-size : goal.returns-then-len-size
returns-then-len-size c =
    let some : 0 < length c.self.inside.found.items = omega (arith, c.if-len-size.true, c.len.ensures) in
    IfOk-weaker c.marked_nodes.result _ _
    (λ nodes. nodes_found c.args.self.now c.self.inside.width c.args.size c.self.inside.marks.items c.deref.result.now
    c.self.inside.found.items nodes.items c.self.view_is c.self.invariant c.requires.room c.requires.ranks some
    c.deref.ensures.value) c.marked_nodes.ensures
