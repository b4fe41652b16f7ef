use Rattle.std.proofs.Common.{rules, ◌+◌, ◌<◌, ◌^◌, ◌∙◌, ap, arith}
use Rattle.ml_history.specs.HistoryStep.{last_name, live}
use Rattle.ml_history.specs.private.Keys.{stack_at}
use Rattle.ml_history.proofs.arrays.CutOffers.{last_low, offered-last, offered-last_plain}
use Rattle.ml_history.proofs.definition.SmallHistories.{live-small}
use Rattle.ml_history.proofs.flat.cutting.end_of.Goals as goal

pub overflow_add-result : goal.overflow_add-result
overflow_add-result c =
    let h = c.args.history.now in
    let last = c.last_name-last.ensures ∙ ap last_name c.stack.ensures in
    let small : c.live.result + c.last_name-last.result < 2 ^ 32 =
    omega (
      arith,
      last,
      c.live.ensures,
      last_low h c.requires.history.history c.args.offer.now c.requires.source,
      live-small h c.requires.history,
    ) in
    search (rules, small)

pub returns-then-offer : goal.returns-then-offer
returns-then-offer c =
    let h = c.args.history.now in
    let last = c.last_name-last.ensures ∙ ap last_name c.stack.ensures in
    (λ i. c.live.ensures i + last i)
    ∙ offered-last (live h) c.args.offer.now.accepting (stack_at h c.args.offer.now.source) c.if-offer.true

pub returns-else-offer : goal.returns-else-offer
returns-else-offer c =
    let h = c.args.history.now in
    c.last_name-last.ensures ∙ ap last_name c.stack.ensures
    ∙ offered-last_plain (live h) c.args.offer.now.accepting (stack_at h c.args.offer.now.source) c.if-offer.false
