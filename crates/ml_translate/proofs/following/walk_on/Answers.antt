use Rattle.std.proofs.Common.{◌↔◌, sym, ◌∙◌}
use Rattle.std.proofs.lemmas.Result.{IfOk-weaker}
use Rattle.ml_lists.specs.Member.{IsMember}
use Rattle.ml_graph.proofs.References.{and_left}
use Rattle.ml_translate.specs.Places.{Place}
use Rattle.ml_translate.specs.private.Finding.{Follows, IsPast, places_in}
use Rattle.ml_translate.proofs.FollowedPlaces.{children_apart, on_past}
use Rattle.ml_translate.proofs.following.walk_on.Goals as goal

pub past-requires-clause-node : goal.past-requires-clause-node
past-requires-clause-node c =
    let g = c.args.reading.now.graph.now in
    and_left g c.requires.graph c.args.place.now.node c.requires.node c.in-And-2.left c.in-And-2.right
    (sym c.node.ensures ∙ c.in-And-2.is)

pub returns-in-And-2 : goal.returns-in-And-2
returns-in-And-2 c =
    let g = c.args.reading.now.graph.now in
    let props = c.args.reading.now.propositions.now.names.items in
    let s = c.args.place.now in
    let l = c.in-And-2.left in
    let r = c.in-And-2.right in
    IfOk-weaker c.past.result (λ b. (t : Place) → IsMember t (places_in b) ↔ IsPast g props s l r t)
    (λ b. (t : Place) → IsMember t (places_in b) ↔ Follows g props s t)
    (λ b h. on_past g props s l r (places_in b) (sym c.node.ensures ∙ c.in-And-2.is)
    (children_apart c.node.result.now c.in-And.left c.in-And.right l r c.in-And.is c.in-And-2.is c.if-left-right.false) h)
    c.past.ensures
