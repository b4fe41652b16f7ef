use Rattle.std.proofs.Common.{◌≡◌, [], ◌∷◌, length, replicate, false, sym, ap, ◌∙◌, subst, arith}
use Rattle.std.proofs.lemmas.List.{length-map}
use Rattle.ml_labelled.specs.private.Reaching.{IsSpread}
use Rattle.ml_labelled.specs.private.Views.{edges_in}
use Rattle.ml_labelled.proofs.SpreadMarks.{row_held, target_state, waits_below, walk_begins, walk_goes_on}
use Rattle.ml_labelled.proofs.reaching.reached_marks.Goals as goal

pub loop-p-init : goal.loop-p-init
loop-p-init c =
    let a = c.args.automaton.now in
    let long : length c.edges-rows.result.now ≡ length a.edges =
    sym (length-map c.edges-rows.result.now edges_in) ∙ ap length c.edges-rows.ensures.edges in
    let marks : c.in_ok-marks.marks.items ≡ replicate (length a.edges) false =
    c.in_ok-marks.ensures.items_if_clones_equal (λ y e. e) ∙ ap (λ n. replicate n false) long in
    walk_begins a c.edges-rows.ensures.labelled c.visit.new.marks.items c.visit.new.waiting.items
    (subst (λ ms. IsSpread (0 ∷ []) ms [] c.visit.new.marks.items c.visit.new.waiting.items) marks
    (subst (λ ws. IsSpread (0 ∷ []) c.in_ok-marks.marks.items ws c.visit.new.marks.items c.visit.new.waiting.items)
    c.new-waiting.ensures.items c.in_ok-visit.ensures))

pub bounds-rows-p : goal.bounds-rows-p
bounds-rows-p c =
    let a = c.args.automaton.now in
    let long : length c.edges-rows.result.now ≡ length a.edges =
    sym (length-map c.edges-rows.result.now edges_in) ∙ ap length c.edges-rows.ensures.edges in
    let low = waits_below a c.in-Some.p c.loop-p.marks.items c.pop.new.self.items c.loop-p.waiting.items c.in-Some.ensures.items
    c.loop-p.invariant in
    omega arith

pub visit_all-requires : goal.visit_all-requires
visit_all-requires c =
    let a = c.args.automaton.now in
    let p = c.in-Some.p in
    let rows = c.edges-rows.result.now in
    let long : length rows ≡ length a.edges = sym (length-map rows edges_in) ∙ ap length c.edges-rows.ensures.edges in
    let low = waits_below a p c.loop-p.marks.items c.pop.new.self.items c.loop-p.waiting.items c.in-Some.ensures.items
    c.loop-p.invariant in
    let row = row_held a p rows c.index-rows-p.result c.deref.result.now c.edges-rows.ensures.edges (omega arith) c.index-rows-p.is c.deref.ensures.value in
    λ n m.
    let state = target_state a c.edges-rows.ensures.labelled p c.deref.result.now row n m in
    let marks_long = c.loop-p.invariant.as_long in
    omega arith

pub loop-p-preserved : goal.loop-p-preserved
loop-p-preserved c =
    let a = c.args.automaton.now in
    let p = c.in-Some.p in
    let rows = c.edges-rows.result.now in
    let long : length rows ≡ length a.edges = sym (length-map rows edges_in) ∙ ap length c.edges-rows.ensures.edges in
    let low = waits_below a p c.loop-p.marks.items c.pop.new.self.items c.loop-p.waiting.items c.in-Some.ensures.items
    c.loop-p.invariant in
    let row = row_held a p rows c.index-rows-p.result c.deref.result.now c.edges-rows.ensures.edges (omega arith) c.index-rows-p.is c.deref.ensures.value in
    walk_goes_on a c.edges-rows.ensures.labelled p c.deref.result.now row c.loop-p.marks.items c.visit_all.new.marks.items
    c.pop.new.self.items c.visit_all.new.waiting.items c.loop-p.waiting.items c.in-Some.ensures.items c.loop-p.invariant
    c.in_ok-visit_all.ensures
