use Rattle.std.proofs.Common.{rules, ◌≡◌, ◌+◌, ◌*◌, ◌<◌, ◌≤◌, unwrap_or, length, ap, sym, ◌∙◌, arith}
use Rattle.std.proofs.lemmas.Result.{on_ok_weaker}
use Rattle.ml_text.specs.Operators.{weight}
use Rattle.ml_mu.specs.Formula.{occurrences}
use Rattle.ml_mu.specs.Term.{formula_of}
use Rattle.ml_mu_graph.specs.private.Views.{around}
use Rattle.ml_mu_graph.proofs.Bindings.{low_inside, low_same, left_again}
use Rattle.ml_text.proofs.AcceptedTexts.{weight_some}
use Rattle.ml_mu.proofs.SomeOccurrence.{some_occurrence}
use Rattle.ml_mu_graph.proofs.NodeLists.{left_placed, closed, second_number}
use Rattle.ml_mu_graph.proofs.graph.+placing.Goals as goal

pub place_both-placed-second-requires : goal.place_both-placed-second-requires
place_both-placed-second-requires t c =
    let left = formula_of c.args.left.now in
    let placed =
    left_placed _ _ _ c.args.operator _ _ _ _ _ _ c.requires.start c.in_ok-open.ensures.nodes c.weight.ensures c.in_ok-place.ensures.nodes in
    let right = formula_of c.args.right.now in
    let few : c.args.at + (weight c.args.operator + occurrences left + occurrences right) ≤ 1000 = c.requires.few in
    omega (arith, ap length c.as_slice.ensures.value, placed.size, few)

pub place_both-place-requires-2 : goal.place_both-place-requires-2
place_both-place-requires-2 t c =
    let left = formula_of c.args.left.now in
    let placed =
    left_placed _ _ _ c.args.operator _ _ _ _ _ _ c.requires.start c.in_ok-open.ensures.nodes c.weight.ensures c.in_ok-place.ensures.nodes in
    let right = formula_of c.args.right.now in
    let few : c.args.at + (weight c.args.operator + occurrences left + occurrences right) ≤ 1000 = c.requires.few in
    let number = second_number c.args.operator _ _ _ _ _ placed.size c.as_slice.ensures.value c.placed-second.ensures in
    let start : length c.place.new.draft.nodes.items ≡ 2 * (c.placed-second.result) =
    placed.size ∙ ap (λ n. 2 * n) (sym number) in
    let room : c.placed-second.result + occurrences right ≤ 1000 = omega (arith, number, few) in
    let deep : c.args.depth ≤ c.placed-second.result = omega (arith, number, c.requires.deep) in
    let low =
    low_same (around c.args.binders.now) (around c.place.new.binders) 1000 c.in_ok-place.ensures.around
    c.requires.binders in
    search rules

pub place_both-close-requires-clause-small : goal.place_both-close-requires-clause-small
place_both-close-requires-clause-small t c =
    let left = formula_of c.args.left.now in
    let placed =
    left_placed _ _ _ c.args.operator _ _ _ _ _ _ c.requires.start c.in_ok-open.ensures.nodes c.weight.ensures c.in_ok-place.ensures.nodes in
    let right = formula_of c.args.right.now in
    let few : c.args.at + (weight c.args.operator + occurrences left + occurrences right) ≤ 1000 = c.requires.few in
    let number = second_number c.args.operator _ _ _ _ _ placed.size c.as_slice.ensures.value c.placed-second.ensures in
    let some = some_occurrence left in (
      omega (arith, few, some, some_occurrence right, weight_some c.args.operator),
      omega (arith, few, c.weight.ensures),
      omega (arith, number, few),
    )

pub place_both-returns-clause-nodes : goal.place_both-returns-clause-nodes
place_both-returns-clause-nodes t c =
    let placed =
    left_placed _ _ _ c.args.operator _ _ _ _ _ _ c.requires.start c.in_ok-open.ensures.nodes c.weight.ensures c.in_ok-place.ensures.nodes in
    let number = second_number c.args.operator _ _ _ _ _ placed.size c.as_slice.ensures.value c.placed-second.ensures in
    closed _ _ _ _ c.args.operator _ _ _ _ _ _ _ _ _ c.requires.start placed number c.in_ok-place.ensures.around c.in_ok-place-2.ensures.nodes c.weight.ensures
    c.close.ensures

pub place_body-place-requires : goal.place_body-place-requires
place_body-place-requires t c =
    let size = occurrences (formula_of c.args.body.now) in
    let less : 2 * size < 2 * size + 1 = omega arith in
    let here : c.args.at ≤ 1000 = omega (arith, c.requires.few) in
    let low =
    low_inside c.args.variable.now c.args.at (around c.args.binders.now) (around c.enter.new.self) 1000
    c.in_ok-outer.ensures.inside here c.requires.binders in
    search (rules, less, c.decreases)

pub place_body-returns-clause-around : goal.place_body-returns-clause-around
place_body-returns-clause-around t c =
    on_ok_weaker c.leave.result
    (left_again c.args.variable.now c.args.at (around c.args.binders.now) (around c.enter.new.self)
    (around c.place.new.binders) (around c.leave.new.self) (unwrap_or c.in_ok-outer.outer 0)
    c.in_ok-outer.ensures.inside c.in_ok-place.ensures.around c.in_ok-outer.ensures.outer)
    c.leave.ensures
