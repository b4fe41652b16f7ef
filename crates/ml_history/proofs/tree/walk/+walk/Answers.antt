use Rattle.std.proofs.Common.{rules, ◌+◌, ◌++◌, true, false, subst, ap, ◌∙◌}
use Rattle.std.specs.List.{flat_map}
use Rattle.ml_lists.specs.Member.{IsMember}
use Rattle.ml_history.specs.private.Forest.{Empty, names, states}
use Rattle.ml_history.specs.private.TreeStep.{targets, moved, with_all, news, lay, full_here, beside, seen_by, Laid}
use Rattle.ml_history.specs.private.Vertices.{joined}
use Rattle.ml_history.proofs.trees.WalkedVertices.{laid_next}
use Rattle.ml_history.proofs.trees.RowsOfVertices.{row_names_below, row_names_here, row_falls}
use Rattle.ml_history.proofs.tree.walk.+walk.Goals as goal

pub walk-requires : goal.walk-requires
walk-requires t c =
    let less = row_falls c.args.siblings.now c.loop-vertex.vertex-index c.vertex.inside.age c.vertex.inside.own
    c.vertex.inside.children.items c.as_slice.result.now c.vertex-item.result c.vertex.view_is
    c.loop-vertex-test.true c.vertex-item.is c.as_slice.ensures.value in (
      search (rules, less, c.decreases),
      λ x m. c.requires x
          (row_names_below c.args.siblings.now c.loop-vertex.vertex-index c.vertex.inside.age c.vertex.inside.own
          (joined c.vertex.inside.children.items) c.vertex-item.result c.vertex.view_is c.loop-vertex-test.true
          c.vertex-item.is x
          (subst (λ vs. IsMember x (names (joined vs))) c.as_slice.ensures.value m)),
    )

pub overflow_add-used : goal.overflow_add-used
overflow_add-used t c =
    let low = c.requires c.vertex.inside.age
    (row_names_here c.args.siblings.now c.loop-vertex.vertex-index c.vertex.inside.age c.vertex.inside.own
    (joined c.vertex.inside.children.items) c.vertex-item.result c.vertex.view_is c.loop-vertex-test.true
    c.vertex-item.is) in
    search (rules, low)

pub loop-vertex-preserved : goal.loop-vertex-preserved
loop-vertex-preserved t c =
    laid_next c.args.used (targets c.args.moves.now) c.args.siblings.now c.loop-vertex.vertex-index c.vertex.inside.age
    c.vertex.inside.own c.vertex.inside.children.items c.vertex-item.result c.loop-vertex-test.true c.vertex-item.is
    c.vertex.view_is
    (seen_by c.args.seen.now) (seen_by c.loop-vertex.seen) (seen_by c.walk.new.seen) (seen_by c.new_targets.new.seen)
    (seen_by c.new_targets-in-loop-vertex.new.seen)
    c.args.full.now.items c.loop-vertex.full.items c.walk.new.full.items c.lay.new.full.items
    c.lay-in-loop-vertex.new.full.items
    c.loop-vertex.row.items c.in_ok-children.children.items c.lay.new.siblings.items
    c.lay-in-loop-vertex.new.siblings.items
    c.in_ok-accepted.accepted.items c.in_ok-kept.kept.items
    c.loop-vertex.invariant
    (subst (λ vs. Laid (seen_by c.loop-vertex.seen) c.loop-vertex.full.items
    (moved c.args.used (targets c.args.moves.now) Empty (joined vs)) (joined c.in_ok-children.children.items)
    (seen_by c.walk.new.seen) c.walk.new.full.items) c.as_slice.ensures.value c.in_ok-children.ensures)
    (c.in_ok-accepted.ensures.states ∙ ap (λ qs.
    news (seen_by c.walk.new.seen) (flat_map (targets c.args.moves.now true) qs)) c.values-own.ensures.value)
    (c.in_ok-accepted.ensures.seen ∙ ap (λ qs.
    with_all (flat_map (targets c.args.moves.now true) qs) (seen_by c.walk.new.seen)) c.values-own.ensures.value)
    (c.in_ok-lay.ensures.row ∙ ap (λ vs.
    beside (joined c.in_ok-children.children.items)
    (lay (c.args.used + c.vertex.inside.age) c.in_ok-accepted.accepted.items (joined vs) Empty))
    c.new.ensures.items)
    (c.in_ok-lay.ensures.full ∙ ap (λ vs.
    c.walk.new.full.items ++ full_here (c.args.used + c.vertex.inside.age) c.in_ok-accepted.accepted.items
    (states (joined vs))) c.new.ensures.items)
    (c.in_ok-kept.ensures.states ∙ ap (λ qs.
    news (seen_by c.new_targets.new.seen) (flat_map (targets c.args.moves.now false) qs))
    c.values-own.ensures.value)
    (c.in_ok-kept.ensures.seen ∙ ap (λ qs.
    with_all (flat_map (targets c.args.moves.now false) qs) (seen_by c.new_targets.new.seen))
    c.values-own.ensures.value)
    c.in_ok-lay-2.ensures.row
    c.in_ok-lay-2.ensures.full
