use Rattle.std.proofs.Common.{arith}
use Rattle.std.proofs.lemmas.List.{take_rest}
use Rattle.ml_spec.proofs.Splits.{end_within, item_fits, item_within, next_item, no_item}
use Rattle.ml_spec.proofs.items.next_item.Goals as goal

pub overflow_add-at : goal.overflow_add-at
overflow_add-at c =
    let fits = item_within c.args.text.now c.args.from c.distance.result c.requires (rw take_rest at c.distance.ensures) in
    omega arith

pub returns-then-at-text-clause-items : goal.returns-then-at-text-clause-items
returns-then-at-text-clause-items c =
    no_item c.args.text.now c.args.from c.distance.result c.requires (rw take_rest at c.distance.ensures) c.if-at-text.true

pub overflow_add-end : goal.overflow_add-end
overflow_add-end c =
    let fits = item_within c.args.text.now c.args.from c.distance.result c.requires (rw take_rest at c.distance.ensures) in
    omega (arith, c.if-at-text.false)

pub overflow_add-at-2 : goal.overflow_add-at-2
overflow_add-at-2 c =
    let fits = item_within c.args.text.now c.args.from c.distance.result c.requires (rw take_rest at c.distance.ensures) in
    omega (arith, c.if-at-text.false)

pub slice_bounds-distance-count-2 : goal.slice_bounds-distance-count-2
slice_bounds-distance-count-2 c =
    let fits = item_within c.args.text.now c.args.from c.distance.result c.requires (rw take_rest at c.distance.ensures) in
    omega (arith, c.if-at-text.false)

pub slice_bounds-distance-start-2 : goal.slice_bounds-distance-start-2
slice_bounds-distance-start-2 c =
    let fits = item_within c.args.text.now c.args.from c.distance.result c.requires (rw take_rest at c.distance.ensures) in
    omega (arith, c.if-at-text.false)

pub overflow_add-end-2 : goal.overflow_add-end-2
overflow_add-end-2 c =
    let fits = end_within c.args.text.now c.args.from c.distance.result c.requires (rw take_rest at c.distance.ensures)
    c.if-at-text.false c.distance-2.result (rw take_rest at c.distance-2.ensures) in
    omega arith

pub slice_bounds-trimmed-end : goal.slice_bounds-trimmed-end
slice_bounds-trimmed-end c =
    let fits = end_within c.args.text.now c.args.from c.distance.result c.requires (rw take_rest at c.distance.ensures)
    c.if-at-text.false c.distance-2.result (rw take_rest at c.distance-2.ensures) in
    omega arith

pub returns-clause-items : goal.returns-clause-items
returns-clause-items c =
    next_item c.args.text.now c.args.from c.distance.result c.requires (rw take_rest at c.distance.ensures)
    c.if-at-text.false c.distance-2.result (rw take_rest at c.distance-2.ensures) c.trimmed-bytes.result.now
    c.trimmed-bytes.ensures

pub returns-clause-place : goal.returns-clause-place
returns-clause-place c =
    let fits = end_within c.args.text.now c.args.from c.distance.result c.requires (rw take_rest at c.distance.ensures)
    c.if-at-text.false c.distance-2.result (rw take_rest at c.distance-2.ensures) in
    (omega arith, omega arith)

pub returns-clause-fits : goal.returns-clause-fits
returns-clause-fits c =
    item_fits c.args.text.now c.args.from c.distance.result c.requires (rw take_rest at c.distance.ensures)
    c.if-at-text.false c.distance-2.result (rw take_rest at c.distance-2.ensures) c.trimmed-bytes.result.now
    c.trimmed-bytes.ensures
