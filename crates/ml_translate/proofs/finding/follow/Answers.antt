use Rattle.std.proofs.Common.{◌↔◌, subst}
use Rattle.std.proofs.lemmas.Result.{on_ok_weaker}
use Rattle.ml_lists.specs.Member.{IsMember}
use Rattle.ml_translate.specs.Places.{Place}
use Rattle.ml_translate.specs.private.Finding.{Follows, places_in}
use Rattle.ml_translate.proofs.FoundPlaces.{followed, passed_limit, place_read}
use Rattle.ml_translate.proofs.finding.follow.Goals as goal

pub returns-clause-followed : goal.returns-clause-followed
returns-clause-followed c =
    let g = c.args.reading.now.graph.now in
    let props = c.args.reading.now.propositions.now.names.items in
    let keys = c.args.places.now.keys in
    let at = c.args.at in
    let read = place_read keys c.as_slice.result.now at c.index-as_slice-at.result c.as_slice.ensures.keys
    c.index-as_slice-at.is c.requires.at in
    let told =
    subst (λ (s : Place). (t : Place) → IsMember t (places_in c.in_ok-behind.behind) ↔ Follows g props s t) read
    c.in_ok-behind.ensures in
    on_ok_weaker c.add_all.result
    (λ grown. followed g props keys at (places_in c.in_ok-behind.behind) told c.add_all.new.places.keys grown)
    c.add_all.ensures.grown

pub returns-clause-passed : goal.returns-clause-passed
returns-clause-passed c = λ e.
    let g = c.args.reading.now.graph.now in
    let props = c.args.reading.now.propositions.now.names.items in
    let keys = c.args.places.now.keys in
    let at = c.args.at in
    let read = place_read keys c.as_slice.result.now at c.index-as_slice-at.result c.as_slice.ensures.keys
    c.index-as_slice-at.is c.requires.at in
    let told =
    subst (λ (s : Place). (t : Place) → IsMember t (places_in c.in_ok-behind.behind) ↔ Follows g props s t) read
    c.in_ok-behind.ensures in
    passed_limit g props keys at (places_in c.in_ok-behind.behind) told c.args.limit (c.add_all.ensures.passed e)
