-- What is found in a graph of the problem decides the problem.
use Rattle.ml_refutation.specs.Views.{of_parts}
use Rattle.ml_decide.proofs.Closed.{closed_by}
use Rattle.ml_decide.proofs.Decided.{met_by, refuted_by}
use Rattle.ml_decide.proofs.deciding.decided.Goals as goal

pub returns-in-Ok-Model : goal.returns-in-Ok-Model
returns-in-Ok-Model c =
    let p = c.args._problem.now in
    let g = c.args.graph.now in
    let is = c.requires.translated in
    let m = c.in-Ok-Model.model in
    let found = rw c.in-Ok-Model.field-0-is at c.in-Ok-Model.ensures.found in (
      closed_by c.args.way c.args.limit p g is c.in-Ok-Model.ensures.few,
      met_by p g c.requires.well_formed is.is_graph_of m.structure m.start found.extracted,
    )

pub returns-in-Ok-Refutation : goal.returns-in-Ok-Refutation
returns-in-Ok-Refutation c =
    let p = c.args._problem.now in
    let g = c.args.graph.now in
    let is = c.requires.translated in
    let r = c.in-Ok-Refutation.refutation in
    let found = rw c.in-Ok-Refutation.field-0-is at c.in-Ok-Refutation.ensures.found in (
      closed_by c.args.way c.args.limit p g is c.in-Ok-Refutation.ensures.few,
      refuted_by p g c.requires.well_formed is.is_graph_of (of_parts r.names r.sequents r.stacks r.entries)
          r.is_refutation found,
    )
