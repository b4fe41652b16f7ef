use Rattle.std.proofs.Common.{rules, ◌+◌, ◌<◌, ◌^◌, ◌∙◌, ◌++◌, ◌∷◌, [], ap, sym, subst, arith}
use Rattle.std.specs.List.{list_any}
use Rattle.ml_lists.specs.Ascending.{IsAscending}
use Rattle.ml_lists.specs.Member.{IsMember}
use Rattle.ml_history.specs.HistoryStep.{last_name, live, through}
use Rattle.ml_history.specs.private.TreeStep.{flagged}
use Rattle.ml_history.specs.private.Keys.{stack_at}
use Rattle.ml_history.proofs.arrays.CutOffers.{source_low, source_ascends, last_low, offer-cut, offer-plain, offer-longer}
use Rattle.ml_history.proofs.definition.SmallHistories.{live-small}
use Rattle.ml_history.proofs.flat.cutting.push_cut.Goals as goal

pub push_whole_or_through-requires-clause-low : goal.push_whole_or_through-requires-clause-low
push_whole_or_through-requires-clause-low c = λ y m.
    let low = source_low c.args.history.now c.requires.history.history c.args.offer.now c.requires.source y
    (subst (IsMember y) c.stack-stack.ensures m) in
    omega (arith, low, c.requires.full)

pub push_whole_or_through-requires-clause-ascend : goal.push_whole_or_through-requires-clause-ascend
push_whole_or_through-requires-clause-ascend c =
    subst IsAscending (sym c.stack-stack.ensures)
    (source_ascends c.args.history.now c.requires.history.history c.args.offer.now c.requires.source)

pub overflow_add-live : goal.overflow_add-live
overflow_add-live c =
    let h = c.args.history.now in
    let last = c.last_name.ensures ∙ ap last_name c.stack-stack.ensures in
    let small : c.live.result + c.last_name.result < 2 ^ 32 =
    omega (
      arith,
      last,
      c.live.ensures,
      last_low h c.requires.history.history c.args.offer.now c.requires.source,
      live-small h c.requires.history,
    ) in
    search (rules, small)

pub returns-then-branch : goal.returns-then-branch
returns-then-branch c =
    let h = c.args.history.now in
    let test = flagged c.args.full.now in
    let names = c.in_ok-push_whole_or_through.ensures.names
    ∙ ap (λ s. c.args.names.now.items ++ through test s) c.stack-stack.ensures in
    let any = ap (list_any test) (sym c.stack-stack.ensures) ∙ sym c.in_ok-push_whole_or_through.ensures.is_cut
    ∙ c.if-branch.true in
    offer-cut test (live h) c.args.offer.now.accepting (stack_at h c.args.offer.now.source) c.args.names.now.items
    c.push_whole_or_through.new.names.items any names

pub returns-in_ok-push : goal.returns-in_ok-push
returns-in_ok-push c =
    let h = c.args.history.now in
    let test = flagged c.args.full.now in
    let names = c.in_ok-push_whole_or_through.ensures.names
    ∙ ap (λ s. c.args.names.now.items ++ through test s) c.stack-stack.ensures in
    let any = ap (list_any test) (sym c.stack-stack.ensures) ∙ sym c.in_ok-push_whole_or_through.ensures.is_cut
    ∙ c.if-branch.false in
    let last = c.last_name.ensures ∙ ap last_name c.stack-stack.ensures in
    let is = c.in_ok-push.ensures.items ∙ (λ i. c.push_whole_or_through.new.names.items ++ (c.live.ensures i + last i) ∷ []) in
    offer-longer test (live h) c.args.offer.now.accepting (stack_at h c.args.offer.now.source) c.args.names.now.items
    c.push_whole_or_through.new.names.items c.push.new.self.items any c.if-offer.true names is

pub returns-else-offer : goal.returns-else-offer
returns-else-offer c =
    let h = c.args.history.now in
    let test = flagged c.args.full.now in
    let names = c.in_ok-push_whole_or_through.ensures.names
    ∙ ap (λ s. c.args.names.now.items ++ through test s) c.stack-stack.ensures in
    offer-plain test (live h) c.args.offer.now.accepting (stack_at h c.args.offer.now.source) c.args.names.now.items
    c.push_whole_or_through.new.names.items c.if-offer.false names
