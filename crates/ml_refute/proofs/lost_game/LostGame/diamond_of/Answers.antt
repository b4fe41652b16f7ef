use Rattle.std.proofs.Common.{ap, sym, ◌∙◌, subst, arith}
use Rattle.std.proofs.lemmas.List.{get_or_default}
use Rattle.ml_graph.specs.Graph.{Graph}
use Rattle.ml_product.specs.DecisionGame.{diamonds_of}
use Rattle.ml_refute.specs.private.Found.{LeavesTo}
use Rattle.ml_refute.proofs.Leaving.{leaving_by}
use Rattle.ml_refute.proofs.lost_game.LostGame.diamond_of.Goals as goal

pub index-requires : goal.index-requires
index-requires c =
    let leaves = leaving_by _ _ _ c.requires.odd c.args.v c.requires.won c.args.branch.now.spread
    c.in_ok-diamonds.diamonds.items
    c.place_of_choice-place.result c.requires.spread c.requires.resolved
    (c.in_ok-diamonds.ensures ∙ ap (λ (g : Graph). diamonds_of g c.args.branch.now.spread) c.requires.graph)
    c.place_of_choice-place.ensures in
    omega (arith, leaves.0, c.in_ok-diamonds.diamonds.ok)

pub returns : goal.returns
returns c =
    let leaves = leaving_by _ _ _ c.requires.odd c.args.v c.requires.won c.args.branch.now.spread
    c.in_ok-diamonds.diamonds.items
    c.place_of_choice-place.result c.requires.spread c.requires.resolved
    (c.in_ok-diamonds.ensures ∙ ap (λ (g : Graph). diamonds_of g c.args.branch.now.spread) c.requires.graph)
    c.place_of_choice-place.ensures in
    let read = get_or_default c.in_ok-diamonds.diamonds.items c.place_of_choice-place.result 0 c.index.result.now leaves.0 in
    subst (LeavesTo _ _ _ c.args.v c.args.branch.now.spread) (read ∙ sym c.index.ensures) leaves.1
