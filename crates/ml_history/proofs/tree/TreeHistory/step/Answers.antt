use Rattle.std.proofs.Common.{refl, sym, subst, ap, ◌∙◌, arith}
use Rattle.ml_lists.specs.Member.{IsMember}
use Rattle.ml_history.specs.private.Forest.{names}
use Rattle.ml_history.specs.HistoryStep.{live, stepped, step_mark}
use Rattle.ml_history.specs.private.TreeStep.{seen_by}
use Rattle.ml_history.specs.private.Vertices.{joined}
use Rattle.ml_history.proofs.trees.ProperTrees.{names-live}
use Rattle.ml_history.proofs.trees.TreeProgram.{made_walk, used_few, settled_bound, fulls_bound, step_kept, step_items, step_marks}
use Rattle.ml_history.proofs.tree.TreeHistory.step.Goals as goal

pub walk-requires : goal.walk-requires
walk-requires c = λ x m.
    let f = joined c.self.inside.roots.items in
    let used = c.live-used.ensures.value ∙ ap live (sym c.self.view_is) in
    let few = used_few f c.live-used.result c.self.invariant used in
    let low = names-live f c.self.invariant.proper x
    (subst (λ vs. IsMember x (names (joined vs))) c.as_slice.ensures.value m) in
    omega (arith, few, low, used)

pub renew-requires-clause-few : goal.renew-requires-clause-few
renew-requires-clause-few c = used_few (joined c.self.inside.roots.items) c.live-used.result c.self.invariant
    (c.live-used.ensures.value ∙ ap live (sym c.self.view_is))

pub renew-requires-clause-names : goal.renew-requires-clause-names
renew-requires-clause-names c =
    let f = joined c.self.inside.roots.items in
    let used = c.live-used.ensures.value ∙ ap live (sym c.self.view_is) in
    let made = made_walk f c.in_ok-moves.moves c.live-used.result c.new-seen.result (seen_by c.walk.new.seen)
    c.new-full.result.items c.walk.new.full.items c.as_slice-3.result.now c.self.inside.roots.items
    c.as_slice.result.now c.in_ok-drafts.drafts.items c.as_slice-2.result.now used c.new-seen.ensures.empty
    c.new-full.ensures.items refl c.as_slice.ensures.value c.in_ok-drafts.ensures c.as_slice-2.ensures.value
    c.as_slice-3.ensures.value in
    settled_bound f c.self.invariant c.in_ok-moves.moves c.live-used.result (joined c.as_slice-2.result.now) used made.0

pub renew-requires-clause-full : goal.renew-requires-clause-full
renew-requires-clause-full c =
    let f = joined c.self.inside.roots.items in
    let used = c.live-used.ensures.value ∙ ap live (sym c.self.view_is) in
    let made = made_walk f c.in_ok-moves.moves c.live-used.result c.new-seen.result (seen_by c.walk.new.seen)
    c.new-full.result.items c.walk.new.full.items c.as_slice-3.result.now c.self.inside.roots.items
    c.as_slice.result.now c.in_ok-drafts.drafts.items c.as_slice-2.result.now used c.new-seen.ensures.empty
    c.new-full.ensures.items refl c.as_slice.ensures.value c.in_ok-drafts.ensures c.as_slice-2.ensures.value
    c.as_slice-3.ensures.value in
    fulls_bound f c.self.invariant c.in_ok-moves.moves c.live-used.result c.as_slice-3.result.now used made.1

pub invariant_of-result : goal.invariant_of-result
invariant_of-result c =
    let f = joined c.self.inside.roots.items in
    let used = c.live-used.ensures.value ∙ ap live (sym c.self.view_is) in
    let made = made_walk f c.in_ok-moves.moves c.live-used.result c.new-seen.result (seen_by c.walk.new.seen)
    c.new-full.result.items c.walk.new.full.items c.as_slice-3.result.now c.self.inside.roots.items
    c.as_slice.result.now c.in_ok-drafts.drafts.items c.as_slice-2.result.now used c.new-seen.ensures.empty
    c.new-full.ensures.items refl c.as_slice.ensures.value c.in_ok-drafts.ensures c.as_slice-2.ensures.value
    c.as_slice-3.ensures.value in
    step_kept f c.self.invariant c.in_ok-moves.moves c.transitions.result.now c.in_ok-moves.ensures
    (joined c.as_slice-2.result.now) (joined c.in_ok-roots.roots.items) made.0 c.in_ok-roots.ensures.row
    c.transitions.ensures.small

pub returns-clause-history : goal.returns-clause-history
returns-clause-history c =
    let f = joined c.self.inside.roots.items in
    let used = c.live-used.ensures.value ∙ ap live (sym c.self.view_is) in
    let made = made_walk f c.in_ok-moves.moves c.live-used.result c.new-seen.result (seen_by c.walk.new.seen)
    c.new-full.result.items c.walk.new.full.items c.as_slice-3.result.now c.self.inside.roots.items
    c.as_slice.result.now c.in_ok-drafts.drafts.items c.as_slice-2.result.now used c.new-seen.ensures.empty
    c.new-full.ensures.items refl c.as_slice.ensures.value c.in_ok-drafts.ensures c.as_slice-2.ensures.value
    c.as_slice-3.ensures.value in
    step_items f c.self.invariant c.in_ok-moves.moves c.transitions.result.now c.in_ok-moves.ensures
    (joined c.as_slice-2.result.now) (joined c.in_ok-roots.roots.items) made.0 c.in_ok-roots.ensures.row
    ∙ (λ i. stepped (c.self.view_is i) (c.transitions.ensures.value i))

pub returns-clause-mark : goal.returns-clause-mark
returns-clause-mark c =
    let f = joined c.self.inside.roots.items in
    let used = c.live-used.ensures.value ∙ ap live (sym c.self.view_is) in
    let made = made_walk f c.in_ok-moves.moves c.live-used.result c.new-seen.result (seen_by c.walk.new.seen)
    c.new-full.result.items c.walk.new.full.items c.as_slice-3.result.now c.self.inside.roots.items
    c.as_slice.result.now c.in_ok-drafts.drafts.items c.as_slice-2.result.now used c.new-seen.ensures.empty
    c.new-full.ensures.items refl c.as_slice.ensures.value c.in_ok-drafts.ensures c.as_slice-2.ensures.value
    c.as_slice-3.ensures.value in
    c.in_ok-roots.ensures.mark
    ∙ step_marks f c.self.invariant c.in_ok-moves.moves c.transitions.result.now c.in_ok-moves.ensures
    c.live-used.result (joined c.as_slice-2.result.now) c.as_slice-3.result.now used made.0 made.1
    ∙ (λ i. step_mark (c.self.view_is i) (c.transitions.ensures.value i))
