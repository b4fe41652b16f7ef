use Rattle.std.proofs.Common.{◌<◌, sym, subst, All}
use Rattle.ml_graph.specs.Graph.{size}
use Rattle.ml_product.specs.View.{viewed}
use Rattle.ml_extract.proofs.StateParts.{sequent_fits}
use Rattle.ml_extract.proofs.parts.spread_at.Goals as goal

pub spread-requires : goal.spread-requires
spread-requires c =
    let p = viewed c.position-view.result in
    subst (λ k. All (λ x. x < size k) p.sequent) (sym c.requires.phase)
    (sequent_fits c.args.game.now.graph.now c.args.game.now.arena.now c.args.position c.requires.has_spread p
    c.position-view.ensures)
