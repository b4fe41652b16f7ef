use Rattle.std.proofs.Common.{◌≡◌, ◌+◌, ◌-◌, ◌<◌, ◌∙◌, get_or, length, map, refl, subst, sym, arith}
use Rattle.std.proofs.lemmas.List.{get_or_default, length-map}
use Rattle.ml_base.specs.declared.structure.Edge.{Edge}
use Rattle.ml_bisim.proofs.Steps.{Gathered, gathered_none, gathered_more, gathered_all, target_below}
use Rattle.ml_bisim.proofs.signatures.gather.Goals as goal

pub loop-rest-init : goal.loop-rest-init
loop-rest-init c =
    let edges = c.args.structure.now.edges in
    let last = c.args.edges.now.leaving.last.items in
    let places = c.requires.edges.leaving in
    let low : c.args.state < length last = omega (arith, c.requires.in_range, places.each_number) in
    let read = c.index-rest.ensures ∙ get_or_default last c.args.state c.index-rest.result.now 0 low in
    subst (λ r. Gathered edges c.args.edges.now.actions.items c.args.class.now c.args.state r c.clear.new.self.items)
    (sym read)
    (gathered_none edges c.args.edges.now.actions.items c.args.class.now c.args.structure.now.states
    c.args.edges.now.leaving places c.args.state c.requires.in_range c.clear.new.self.items c.clear.ensures.items)

pub bounds-class-edge_at : goal.bounds-class-edge_at
bounds-class-edge_at c =
    let low = target_below c.args.structure.now c.keeps.ensures.is_structure _ c.edge_at.result.now
    c.edge_at.ensures in
    omega (arith, low, c.requires.each_state)

pub loop-rest-smaller : goal.loop-rest-smaller
loop-rest-smaller c =
    let before = c.args.edges.now.leaving.before.items in
    let places = c.requires.edges.leaving in
    let place = c.loop-rest.rest - 1 in
    let long = length-map c.args.structure.now.edges (λ (f : Edge). f.source) in
    let some = c.loop-rest-test.true in
    let low : place < length (map (λ (f : Edge). f.source) c.args.structure.now.edges) =
    omega (arith, c.loop-rest.invariant.in_range, long, some) in
    let within : place < length before = omega (arith, low, places.each_place) in
    let read = c.index-rest-in-loop-rest.ensures
    ∙ get_or_default before place c.index-rest-in-loop-rest.result.now 0 within in
    let link = places.links place low in
    omega (arith, link.before, read, some)

pub loop-rest-preserved : goal.loop-rest-preserved
loop-rest-preserved c =
    let edges = c.args.structure.now.edges in
    let before = c.args.edges.now.leaving.before.items in
    let actions = c.args.edges.now.actions.items in
    let places = c.requires.edges.leaving in
    let place = c.loop-rest.rest - 1 in
    let long = length-map edges (λ (f : Edge). f.source) in
    let some = c.loop-rest-test.true in
    let within : place < length before =
    omega (arith, c.loop-rest.invariant.in_range, long, some, places.each_place) in
    let read = c.index-rest-in-loop-rest.ensures
    ∙ get_or_default before place c.index-rest-in-loop-rest.result.now 0 within in
    let next : c.loop-rest.rest ≡ place + 1 = omega (arith, some) in
    let numbers = c.requires.edges.actions.1.each_key in
    let all = length-map edges (λ (f : Edge). f.action) in
    let action = c.index.ensures
    ∙ get_or_default actions place c.index.result.now 0
    (omega (arith, c.loop-rest.invariant.in_range, some, numbers, all)) in
    subst (λ r. Gathered edges actions c.args.class.now c.args.state r c.push.new.self.items) (sym read)
    (gathered_more edges actions c.args.class.now c.args.structure.now.states c.args.edges.now.leaving places c.args.state
    c.requires.in_range c.loop-rest.rest place c.edge_at.result.now
    (record { action = c.index.result.now; class = get_or c.args.class.now c.edge_at.result.now.target 0 })
    c.loop-rest.steps.items c.push.new.self.items c.loop-rest.invariant next c.edge_at.ensures action refl
    c.in_ok-push.ensures.items)

pub returns : goal.returns
returns c =
    let end : c.loop-rest.rest ≡ 0 = omega (arith, c.loop-rest-test.false) in
    record {
      ascends = c.ascend.ensures.ascends;
      same = λ x.
          let a = c.ascend.ensures.same x in
          let b = gathered_all c.args.structure.now.edges c.args.edges.now.actions.items c.args.class.now
          c.args.structure.now.states c.args.edges.now.leaving c.requires.edges.leaving c.args.state c.requires.in_range
          c.loop-rest.rest c.loop-rest.steps.items c.loop-rest.invariant end x in
          ((λ h. b.0 (a.0 h)), (λ o. a.1 (b.1 o)));
    }
