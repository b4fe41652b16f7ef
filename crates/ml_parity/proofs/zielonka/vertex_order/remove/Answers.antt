-- The four writes are an exchange.
use Rattle.std.proofs.Common.{◌≡◌, ◌-◌, arith, get_or, ◌∙◌}
use Rattle.std.proofs.lemmas.List.{get_or_default}
use Rattle.ml_parity.specs.private.SolverSteps.{place_of}
use Rattle.ml_parity.proofs.VertexOrder.{exchanged, row_exchanged, removed_exchanged, is_vertex}
use Rattle.ml_parity.proofs.zielonka.vertex_order.remove.Goals as goal

pub returns-clause-row : goal.returns-clause-row
returns-clause-row c =
    let last : c.index-last.result.now ≡ get_or c.args.row.now.order.items (c.args.count - 1) 0 = c.index-last.ensures
    ∙ get_or_default c.args.row.now.order.items (c.args.count - 1) _ 0
    (omega (arith, c.requires.low, c.requires.fits, c.requires.row.size)) in
    let at : c.index-at.result.now ≡ place_of c.args.row.now.place.items c.args.vertex = c.index-at.ensures
    ∙ get_or_default c.args.row.now.place.items c.args.vertex _ _
    (is_vertex c.args.row.now.place.items c.args.vertex c.args.count c.requires.fits c.requires.low) in
    row_exchanged c.args.row.now.order.items c.args.row.now.place.items _ _ c.args.count c.args.vertex
    c.index-last.result.now c.index-at.result.now c.requires.row c.requires.fits c.requires.low last at
    (exchanged c.args.row.now.order.items c.args.row.now.place.items c.args.count c.args.vertex
    c.index-last.result.now c.index-at.result.now c.requires.row c.requires.fits c.requires.low last at)

pub returns-clause-removed : goal.returns-clause-removed
returns-clause-removed c =
    let last : c.index-last.result.now ≡ get_or c.args.row.now.order.items (c.args.count - 1) 0 = c.index-last.ensures
    ∙ get_or_default c.args.row.now.order.items (c.args.count - 1) _ 0
    (omega (arith, c.requires.low, c.requires.fits, c.requires.row.size)) in
    let at : c.index-at.result.now ≡ place_of c.args.row.now.place.items c.args.vertex = c.index-at.ensures
    ∙ get_or_default c.args.row.now.place.items c.args.vertex _ _
    (is_vertex c.args.row.now.place.items c.args.vertex c.args.count c.requires.fits c.requires.low) in
    removed_exchanged c.args.row.now.order.items c.args.row.now.place.items _ _ c.args.count c.args.vertex
    c.index-last.result.now c.index-at.result.now c.requires.row c.requires.fits c.requires.low last at
    (exchanged c.args.row.now.order.items c.args.row.now.place.items c.args.count c.args.vertex
    c.index-last.result.now c.index-at.result.now c.requires.row c.requires.fits c.requires.low last at)
