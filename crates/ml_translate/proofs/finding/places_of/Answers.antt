use Rattle.std.proofs.Common.{rules, ◌<◌, ◌≤◌, length, sym, subst, arith}
use Rattle.ml_graph.specs.Graph.{IsGraph, size}
use Rattle.ml_translate.specs.private.Finding.{IsFollowed, IsPassed, place_at}
use Rattle.ml_translate.proofs.CubeWalks.{ascends_place}
use Rattle.ml_translate.proofs.FitPlaces.{node_fits}
use Rattle.ml_translate.proofs.FoundPlaces.{all_found, entry_place, found_first, found_full, found_more}
use Rattle.ml_translate.proofs.finding.places_of.Goals as goal

pub loop-done-init : goal.loop-done-init
loop-done-init c =
    let props = c.args.propositions.now.names.items in
    found_first c.args.automaton.now props c.args.limit c.begin_all.new.places.keys (c.in_ok-begin_all.ensures.begun props)

pub follow-requires-clause-node : goal.follow-requires-clause-node
follow-requires-clause-node c =
    let a = c.args.automaton.now in
    let props = c.args.propositions.now.names.items in
    let l = c.loop-done in
    let low : l.done < length l.places.keys = omega arith in
    let s = place_at l.places.keys l.done in
    let is = entry_place a props c.args.limit l.done l.done l.places.keys low l.invariant in
    subst (λ g. s.node < size g) (sym c.graph.ensures.value)
    (node_fits a props c.states-states.ensures.states (subst IsGraph c.graph.ensures.value c.size-size.ensures.is_graph) s is)

pub follow-requires-clause-ascends : goal.follow-requires-clause-ascends
follow-requires-clause-ascends c =
    let a = c.args.automaton.now in
    let props = c.args.propositions.now.names.items in
    let l = c.loop-done in
    let low : l.done < length l.places.keys = omega arith in
    ascends_place a props (place_at l.places.keys l.done)
    (entry_place a props c.args.limit l.done l.done l.places.keys low l.invariant)

pub returns-in_err-follow-clause-passed : goal.returns-in_err-follow-clause-passed
returns-in_err-follow-clause-passed c = λ e.
    let a = c.args.automaton.now in
    let props = c.args.propositions.now.names.items in
    let l = c.loop-done in
    let low : l.done < length l.places.keys = omega arith in
    found_full a props c.args.limit l.done l.places.keys low l.invariant
    (subst (λ g. IsPassed g props l.places.keys l.done c.args.limit) c.graph.ensures.value
    (c.in_err-follow.ensures.passed (search rules)))

pub loop-done-preserved : goal.loop-done-preserved
loop-done-preserved c =
    let a = c.args.automaton.now in
    let props = c.args.propositions.now.names.items in
    let l = c.loop-done in
    let low : l.done < length l.places.keys = omega arith in
    found_more a props c.args.limit l.done l.places.keys c.follow.new.places.keys low l.invariant
    (subst (λ g. IsFollowed g props l.places.keys l.done c.follow.new.places.keys) c.graph.ensures.value
    c.in_ok-follow.ensures.followed)
    c.in_ok-follow.ensures.few

pub returns-clause-places : goal.returns-clause-places
returns-clause-places c =
    let l = c.loop-done in
    let past : length l.places.keys ≤ l.done = omega arith in
    all_found c.args.automaton.now c.args.propositions.now.names.items c.args.limit l.done l.places.keys past l.invariant
