use Rattle.std.proofs.Common.{rules, get_or, refl, subst, ap, ◌∙◌}
use Rattle.ml_lists.specs.Ascending.{ascending}
use Rattle.ml_lists.specs.Member.{IsMember}
use Rattle.ml_history.specs.private.Forest.{names}
use Rattle.ml_history.specs.private.TreeStep.{renewed}
use Rattle.ml_history.specs.private.Vertices.{joined}
use Rattle.ml_history.proofs.trees.FlagsOfNames.{renewed_next}
use Rattle.ml_history.proofs.trees.RowsOfVertices.{row_names_below, row_names_here, row_falls}
use Rattle.ml_history.proofs.tree.renewal.+renewed.Goals as goal

pub bounds-numbers-draft-inside : goal.bounds-numbers-draft-inside
bounds-numbers-draft-inside t c =
    c.requires c.draft.inside.age (row_names_here c.args.drafts.now c.loop-draft.draft-index c.draft.inside.age
    c.draft.inside.own.items (joined c.draft.inside.children.items) c.draft-item.result c.draft.view_is
    c.loop-draft-test.true c.draft-item.is)

pub renewed-requires : goal.renewed-requires
renewed-requires t c =
    let less = row_falls c.args.drafts.now c.loop-draft.draft-index c.draft.inside.age c.draft.inside.own.items
    c.draft.inside.children.items c.as_slice-in-loop-draft.result.now c.draft-item.result c.draft.view_is
    c.loop-draft-test.true c.draft-item.is c.as_slice-in-loop-draft.ensures.value in (
      search (rules, less, c.decreases),
      λ y m. c.requires y
          (row_names_below c.args.drafts.now c.loop-draft.draft-index c.draft.inside.age c.draft.inside.own.items
          (joined c.draft.inside.children.items) c.draft-item.result c.draft.view_is c.loop-draft-test.true
          c.draft-item.is y
          (subst (λ vs. IsMember y (names (joined vs))) c.as_slice-in-loop-draft.ensures.value m)),
    )

pub loop-draft-preserved : goal.loop-draft-preserved
loop-draft-preserved t c =
    renewed_next (λ y. get_or c.args.numbers.now y 0) c.args.drafts.now c.loop-draft.draft-index c.draft.inside.age
    c.draft.inside.own.items (joined c.draft.inside.children.items) c.draft-item.result c.loop-draft.row.items
    c.push.new.self.items (get_or c.args.numbers.now c.draft.inside.age 0) c.in_ok-set_of.field-0
    (joined c.in_ok-renewed.field-0.items) c.draft.view_is c.loop-draft-test.true c.draft-item.is
    c.loop-draft.invariant refl
    (c.in_ok-set_of.ensures ∙ ap ascending c.as_slice.ensures.value)
    (c.in_ok-renewed.ensures ∙ ap (λ vs. renewed (λ y. get_or c.args.numbers.now y 0) (joined vs))
    c.as_slice-in-loop-draft.ensures.value)
    c.in_ok-push.ensures.items
