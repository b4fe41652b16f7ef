use Rattle.std.proofs.Common.{◌<◌, ◌∙◌, length, get_or, map, ap, subst, sym, refl, arith}
use Rattle.std.proofs.lemmas.List.{length-map}
use Rattle.std.proofs.lemmas.List.Sorted.{searched}
use Rattle.ml_lists.specs.Ascending.{IsAscending}
use Rattle.ml_history.specs.HistoryStep.{last_name}
use Rattle.ml_history.proofs.trees.ItemsByState.{state_of}
use Rattle.ml_history.proofs.arrays.BestOffers.{Found, Rises, nowhere, along_one, along_none, states_rise}
use Rattle.ml_history.proofs.arrays.OrderOfNames.{last-low}
use Rattle.ml_history.proofs.flat.offers.offer_along.Goals as goal

pub bounds-places-last_name : goal.bounds-places-last_name
bounds-places-last_name c =
    let low : c.in-Ok.source < length c.args.history.now =
    omega (arith, c.in-Ok.ensures.bound, ap length c.states.ensures, length-map c.args.history.now state_of) in
    let is = c.last_name.ensures ∙ ap last_name c.stack.ensures in
    omega (
      arith,
      is,
      last-low c.args.history.now c.requires.history.history c.in-Ok.source low,
      c.requires.places.count,
    )

pub returns-in-Ok-clause-some : goal.returns-in-Ok-clause-some
returns-in-Ok-clause-some c =
    let h = c.args.history.now in
    let xs = c.states.result.now in
    let up : IsAscending (map state_of h) = c.requires.history.history.states_ascend in
    let low : c.in-Ok.source < length h = omega (
      arith,
      c.in-Ok.ensures.bound,
      ap length c.states.ensures,
      length-map h state_of,
    ) in
    let found = subst (λ r. Found xs c.args.transition.from r) c.in-Ok.is
    (searched xs c.args.transition.from c.binary_search.result c.binary_search.ensures.position
    (subst Rises (sym c.states.ensures) (states_rise (map state_of h) up))) in
    let from = ap (λ l. get_or l c.in-Ok.source 0) (sym c.states.ensures) ∙ found.1 in
    let place = ap (λ y. get_or c.args.places.now y 0) (c.last_name.ensures ∙ ap last_name c.stack.ensures) in (
      record { has_source = low; place_is = place },
      refl,
      along_one h c.args.transition
          (record {
            target = c.args.transition.to;
            source = c.in-Ok.source;
            place = get_or c.args.places.now c.last_name.result 0;
            accepting = c.args.transition.accepting;
          }) up low from
          refl refl,
    )

pub returns-in-Err-clause-none : goal.returns-in-Err-clause-none
returns-in-Err-clause-none c =
    let h = c.args.history.now in
    let xs = c.states.result.now in
    let up : IsAscending (map state_of h) = c.requires.history.history.states_ascend in
    let found = subst (λ r. Found xs c.args.transition.from r) c.in-Err.is
    (searched xs c.args.transition.from c.binary_search.result c.binary_search.ensures.position
    (subst Rises (sym c.states.ensures) (states_rise (map state_of h) up))) in
    along_none h c.args.transition (λ k low e.
    nowhere xs c.args.transition.from c.in-Err.field-0 found k
    (omega (arith, low, ap length c.states.ensures, length-map h state_of))
    (ap (λ l. get_or l k 0) c.states.ensures ∙ e))
