use Rattle.std.proofs.Common.{◌<◌, ◌∷◌, [], length, get_or, sym, ap, ◌∙◌, arith}
use Rattle.std.proofs.lemmas.List.{get_or_past}
use Rattle.ml_refutation.specs.private.Rows.{part}
use Rattle.ml_refutation.proofs.Rows.{row_bounds, row_at, rows_length}
use Rattle.ml_refutation.proofs.lists.Lists.at.Goals as goal

pub part-requires-clause-rises : goal.part-requires-clause-rises
part-requires-clause-rises c =
    let a = c.self.inside in
    let ends = c.as_slice-ends.ensures.value in
    let low : c.args.place < length a.ends.items = omega (arith, c.if-place-ends.true, ap length ends) in
    let bounds = row_bounds 0 a.ends.items (length a.numbers.items) c.args.place c.self.invariant low in
    omega (arith, bounds.0, c.start_of.ensures ∙ ap (λ xs. get_or (0 ∷ xs) c.args.place 0) ends, ap (λ xs. get_or xs c.args.place 0) ends)

pub part-requires-clause-fits : goal.part-requires-clause-fits
part-requires-clause-fits c =
    let a = c.self.inside in
    let ends = c.as_slice-ends.ensures.value in
    let low : c.args.place < length a.ends.items = omega (arith, c.if-place-ends.true, ap length ends) in
    let bounds = row_bounds 0 a.ends.items (length a.numbers.items) c.args.place c.self.invariant low in
    omega (arith, bounds.1, ap (λ xs. get_or xs c.args.place 0) ends, ap length c.as_slice.ensures.value)

pub returns-then-place-ends : goal.returns-then-place-ends
returns-then-place-ends c =
    let a = c.self.inside in
    let k = c.args.place in
    let ends = c.as_slice-ends.ensures.value in
    let low : k < length a.ends.items = omega (arith, c.if-place-ends.true, ap length ends) in
    c.part.ensures
    ∙ ap (λ s. part c.as_slice.result.now s (get_or c.as_slice-ends.result.now k 0)) c.start_of.ensures
    ∙ (λ i. part (c.as_slice.ensures.value i) (get_or (0 ∷ ends i) k 0) (get_or (ends i) k 0))
    ∙ sym (row_at 0 a.ends.items a.numbers.items k low)
    ∙ ap (λ l. get_or l k []) c.self.view_is

pub returns-else-place-ends : goal.returns-else-place-ends
returns-else-place-ends c =
    let a = c.self.inside in
    let many = rows_length 0 a.ends.items a.numbers.items in
    sym (get_or_past c.args.self.now c.args.place []
    (omega (arith, c.if-place-ends.false, ap length c.as_slice-ends.ensures.value, many, ap length c.self.view_is)))
