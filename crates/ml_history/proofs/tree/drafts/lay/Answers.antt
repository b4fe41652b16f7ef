use Rattle.std.proofs.Common.{eqb, [], ◌∷◌, ◌++◌, ap, ◌∙◌}
use Rattle.ml_history.specs.private.Forest.{states}
use Rattle.ml_history.specs.private.Vertices.{joined}
use Rattle.ml_history.proofs.trees.GrowingRows.{rooted}
use Rattle.ml_history.proofs.trees.RowsOfVertices.{laid_own, laid_full, laid_none}
use Rattle.ml_history.proofs.tree.drafts.lay.Goals as goal

pub returns-then-not-is_empty-clause-row : goal.returns-then-not-is_empty-clause-row
returns-then-not-is_empty-clause-row c =
    laid_own c.args.age c.args.own.items (joined c.args.children.items) c.args.siblings.now.items c.push.new.self.items
    c.is_empty.result (c.is_empty.ensures ∙ ap (λ n. eqb n 0) c.args.own.ok.0) c.if-not-is_empty.true
    c.in_ok-push.ensures.items

pub returns-then-is_empty-clause-row : goal.returns-then-is_empty-clause-row
returns-then-is_empty-clause-row c =
    laid_none c.args.age c.args.own.items (joined c.args.children.items) c.push_states.new.all.items
    c.args.siblings.now.items c.is_empty.result c.is_empty-2.result
    (c.is_empty.ensures ∙ ap (λ n. eqb n 0) c.args.own.ok.0) c.if-not-is_empty.false
    (c.in_ok-push_states.ensures ∙ (λ i. c.new-all.ensures.items i ++ states (joined (c.as_slice.ensures.value i))))
    (c.is_empty-2.ensures ∙ ap (λ n. eqb n 0) c.push_states.new.all.ok.0) c.if-is_empty.true

pub returns-clause-row : goal.returns-clause-row
returns-clause-row c =
    laid_full c.args.age c.args.own.items (joined c.args.children.items) c.push_states.new.all.items
    c.args.siblings.now.items c.push-3.new.self.items c.is_empty.result c.is_empty-2.result
    (c.is_empty.ensures ∙ ap (λ n. eqb n 0) c.args.own.ok.0) c.if-not-is_empty.false
    (c.in_ok-push_states.ensures ∙ (λ i. c.new-all.ensures.items i ++ states (joined (c.as_slice.ensures.value i))))
    (c.is_empty-2.ensures ∙ ap (λ n. eqb n 0) c.push_states.new.all.ok.0) c.if-is_empty.false
    (c.in_ok-push-3.ensures.items ∙ ap (λ vs.
    c.args.siblings.now.items ++ rooted c.args.age c.push_states.new.all.items (joined vs) ∷ [])
    c.new.ensures.items)
