use Rattle.std.proofs.Common.{◌≡◌, ◌+◌, ◌-◌, ◌<◌, ◌∙◌, All, length, map, subst, sym, arith}
use Rattle.std.proofs.lemmas.List.{get_or_default, length-map}
use Rattle.ml_base.specs.declared.structure.Edge.{Edge}
use Rattle.ml_bisim.specs.private.Rounds.{AreListed, IsLoose}
use Rattle.ml_bisim.proofs.Entering.{Passed, passed_all, passed_next, passed_none}
use Rattle.ml_bisim.proofs.rounds.unsettle_before.Goals as goal

pub loop-rest-init : goal.loop-rest-init
loop-rest-init c =
    let m = c.args.structure.now in
    let last = c.args.edges.now.entering.last.items in
    let places = c.requires.edges.entering in
    let low : c.args.state < length last = omega (arith, c.requires.in_range, places.each_number) in
    let read = c.index-rest.ensures ∙ get_or_default last c.args.state c.index-rest.result.now 0 low in
    subst (λ r. Passed m.edges c.args.class.now m.states c.args.state c.args.is_settled.now r c.args.is_settled.now
    c.args.unsettled.now.items)
    (sym read)
    (passed_none m.edges m.states c.args.edges.now.entering places c.args.class.now c.args.state c.args.is_settled.now
    c.args.unsettled.now.items c.requires.in_range c.requires.flags c.requires.states c.requires.listed)

pub loop-rest-smaller : goal.loop-rest-smaller
loop-rest-smaller c =
    let edges = c.args.structure.now.edges in
    let before = c.args.edges.now.entering.before.items in
    let places = c.requires.edges.entering in
    let place = c.loop-rest.rest - 1 in
    let long = length-map edges (λ (f : Edge). f.target) in
    let some = c.loop-rest-test.true in
    let low : place < length (map (λ (f : Edge). f.target) edges) =
    omega (arith, c.loop-rest.invariant.in_range, long, some) in
    let within : place < length before = omega (arith, low, places.each_place) in
    let read = c.index-rest-in-loop-rest.ensures
    ∙ get_or_default before place c.index-rest-in-loop-rest.result.now 0 within in
    let link = places.links place low in
    omega (arith, link.before, read, some)

pub loop-rest-preserved : goal.loop-rest-preserved
loop-rest-preserved c =
    let m = c.args.structure.now in
    let before = c.args.edges.now.entering.before.items in
    let places = c.requires.edges.entering in
    let place = c.loop-rest.rest - 1 in
    let long = length-map m.edges (λ (f : Edge). f.target) in
    let some = c.loop-rest-test.true in
    let within : place < length before =
    omega (arith, c.loop-rest.invariant.in_range, long, some, places.each_place) in
    let read = c.index-rest-in-loop-rest.ensures
    ∙ get_or_default before place c.index-rest-in-loop-rest.result.now 0 within in
    let next : c.loop-rest.rest ≡ place + 1 = omega (arith, some) in
    let n = c.requires.each_state in
    subst (λ r. Passed m.edges c.args.class.now m.states c.args.state c.args.is_settled.now r c.loosen.new.is_settled
    c.loosen.new.unsettled.items) (sym read)
    (passed_next m.edges m.states c.args.edges.now.entering places c.args.class.now c.args.state c.args.is_settled.now
    c.loop-rest.rest place c.edge_at.result.now c.loop-rest.is_settled c.loop-rest.unsettled.items
    c.loop-rest.invariant next
    c.edge_at.ensures c.loosen.new.is_settled c.loosen.new.unsettled.items (c.in_ok-loosen.ensures.flags ∙ n)
    (subst (λ k. All (λ s. s < k) c.loosen.new.unsettled.items) n c.in_ok-loosen.ensures.states)
    (subst (λ k. AreListed c.loosen.new.is_settled k c.loosen.new.unsettled.items) n c.in_ok-loosen.ensures.listed)
    c.in_ok-loosen.ensures.fewer
    (subst (λ k. IsLoose c.args.class.now k c.loosen.new.is_settled c.edge_at.result.now.source) n
    c.in_ok-loosen.ensures.loose))

pub returns-clause-cut_off : goal.returns-clause-cut_off
returns-clause-cut_off c =
    let m = c.args.structure.now in
    let end : c.loop-rest.rest ≡ 0 = omega (arith, c.loop-rest-test.false) in
    passed_all m.edges m.states c.args.edges.now.entering c.requires.edges.entering c.args.class.now c.args.state
    c.args.is_settled.now
    c.loop-rest.rest c.loop-rest.is_settled c.loop-rest.unsettled.items c.loop-rest.invariant end
