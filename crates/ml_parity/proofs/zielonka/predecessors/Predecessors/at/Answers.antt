-- The row of a vertex lies between two starts.
use Rattle.std.proofs.Common.{arith, ◌∙◌, length, take, drop, ◌-◌, sym, ap}
use Rattle.ml_parity.proofs.LaidRows.{rows_count, lies_between}
use Rattle.ml_parity.proofs.zielonka.predecessors.Predecessors.at.Goals as goal

pub index-start-requires : goal.index-start-requires
index-start-requires c =
    let count = rows_count c.self.inside.starts.items c.self.inside.sources.items c.self.invariant in
    omega (arith, c.requires, ap length c.self.view_is, c.self.inside.starts.ok.0)

pub overflow_add-vertex : goal.overflow_add-vertex
overflow_add-vertex c =
    let count = rows_count c.self.inside.starts.items c.self.inside.sources.items c.self.invariant in
    omega (arith, c.requires, ap length c.self.view_is, c.self.inside.starts.ok.0, c.self.inside.starts.small)

pub index-end-requires : goal.index-end-requires
index-end-requires c =
    let count = rows_count c.self.inside.starts.items c.self.inside.sources.items c.self.invariant in
    omega (arith, c.requires, ap length c.self.view_is, c.self.inside.starts.ok.0)

pub part-requires-clause-up : goal.part-requires-clause-up
part-requires-clause-up c =
    let lies = lies_between c.self.inside.starts.items c.self.inside.sources.items c.args.self.now c.args.vertex
    c.index-start.result.now c.index-end.result.now c.self.invariant c.self.view_is c.requires c.index-start.ensures
    c.index-end.ensures in
    lies.up

pub part-requires-clause-fits : goal.part-requires-clause-fits
part-requires-clause-fits c =
    let lies = lies_between c.self.inside.starts.items c.self.inside.sources.items c.args.self.now c.args.vertex
    c.index-start.result.now c.index-end.result.now c.self.invariant c.self.view_is c.requires c.index-start.ensures
    c.index-end.ensures in
    omega (arith, lies.fits, ap length c.deref.ensures.value)

pub returns : goal.returns
returns c =
    let lies = lies_between c.self.inside.starts.items c.self.inside.sources.items c.args.self.now c.args.vertex
    c.index-start.result.now c.index-end.result.now c.self.invariant c.self.view_is c.requires c.index-start.ensures
    c.index-end.ensures in
    c.part.ensures
    ∙ ap (λ xs. take (c.index-end.result.now - c.index-start.result.now) (drop c.index-start.result.now xs))
    c.deref.ensures.value ∙ sym lies.is
