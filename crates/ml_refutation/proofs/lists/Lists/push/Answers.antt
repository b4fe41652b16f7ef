use Rattle.std.proofs.Common.{◌∷◌, ◌++◌, [], length, ap, ◌∙◌, arith}
use Rattle.ml_refutation.proofs.Rows.{pushed, rows_length}
use Rattle.ml_refutation.proofs.lists.Lists.push.Goals as goal

pub invariant_of-self-2 : goal.invariant_of-self-2
invariant_of-self-2 c =
    let a = c.self.inside in
    (pushed a.ends.items _ a.numbers.items _ c.args.list.now c.len.result
    (c.push_reserved.ensures.items ∙ ap (λ es. es ++ c.len.result ∷ []) c.reserve.ensures.items)
    c.in_ok-extend_from_slice.ensures.items (c.len.ensures ∙ c.extend_from_slice.new.self.ok.0) c.self.invariant).0

pub returns-clause-place : goal.returns-clause-place
returns-clause-place c =
    let a = c.self.inside in
    omega (arith, c.len-place.ensures, a.ends.ok.0, rows_length 0 a.ends.items a.numbers.items, ap length c.self.view_is)

pub returns-clause-lists : goal.returns-clause-lists
returns-clause-lists c =
    let a = c.self.inside in
    (pushed a.ends.items _ a.numbers.items _ c.args.list.now c.len.result
    (c.push_reserved.ensures.items ∙ ap (λ es. es ++ c.len.result ∷ []) c.reserve.ensures.items)
    c.in_ok-extend_from_slice.ensures.items (c.len.ensures ∙ c.extend_from_slice.new.self.ok.0) c.self.invariant).1
    ∙ ap (λ l. l ++ c.args.list.now ∷ []) c.self.view_is
