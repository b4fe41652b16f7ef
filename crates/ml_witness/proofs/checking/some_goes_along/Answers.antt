use Rattle.std.proofs.Common.{refl}
use Rattle.ml_graph.specs.Graph.{action_at}
use Rattle.ml_witness.proofs.LookedThrough.{found_member, way_along}
use Rattle.ml_witness.proofs.checking.some_goes_along.Goals as goal

pub returns-then-goes_along : goal.returns-then-goes_along
returns-then-goes_along c =
    λ _.
    let e = c.in-Some.edge.now in
    let found = c.if-goes_along.ensures in
    let look = c.in-Some.ensures.lookup in
    let inside = found_member c.edges.result.now c.args.structure.now.edges c.loop-place.place e c.edges.ensures look.0
    look.1 in (
      e.target,
      way_along c.args.structure.now c.args.state (action_at c.args.graph.now c.args.action) e inside
          (found.source refl) (found.action refl),
      found.leads refl,
    )
