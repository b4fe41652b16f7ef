use Rattle.std.proofs.Common.{◌∙◌, length, ap, subst, sym, arith}
use Rattle.std.proofs.lemmas.Result.{IfOk-weaker}
use Rattle.ml_history.specs.private.Line.{IsTree, AreLinks, ArePlaces}
use Rattle.ml_history.proofs.arrays.OrderOfNames.{paths, tell_offers}
use Rattle.ml_history.proofs.definition.SmallHistories.{live-small}
use Rattle.ml_history.proofs.flat.places.places.Goals as goal

pub links-requires-clause-few : goal.links-requires-clause-few
links-requires-clause-few c =
    let few = live-small c.args.history.now c.requires in
    omega (arith, few, c.in_ok-parents.ensures.count, ap length c.as_slice.ensures.value)

pub links-requires-clause-tree : goal.links-requires-clause-tree
links-requires-clause-tree c =
    subst IsTree (sym c.as_slice.ensures.value)
    (paths c.args.history.now c.requires.history c.in_ok-parents.parents.items c.in_ok-parents.ensures).older

pub places_along-requires-clause-few : goal.places_along-requires-clause-few
places_along-requires-clause-few c =
    let few = live-small c.args.history.now c.requires in
    omega (arith, few, c.in_ok-parents.ensures.count, ap length c.as_slice-2.ensures.value)

pub places_along-requires-clause-tree : goal.places_along-requires-clause-tree
places_along-requires-clause-tree c =
    subst IsTree (sym c.as_slice-2.ensures.value)
    (paths c.args.history.now c.requires.history c.in_ok-parents.parents.items c.in_ok-parents.ensures).older

pub places_along-requires-clause-links : goal.places_along-requires-clause-links
places_along-requires-clause-links c =
    subst (λ ps. AreLinks c.as_slice-3.result.now ps) (c.as_slice.ensures.value ∙ sym c.as_slice-2.ensures.value)
    (subst (λ ns. AreLinks ns c.as_slice.result.now) (sym c.as_slice-3.ensures.value) c.in_ok-next.ensures)

pub returns : goal.returns
returns c =
    let h = c.args.history.now in
    IfOk-weaker c.places_along.result _ _
    (λ places at. tell_offers h c.in_ok-parents.parents.items places.items c.requires.history c.in_ok-parents.ensures
    (subst (ArePlaces places.items) c.as_slice-2.ensures.value at))
    c.places_along.ensures
