use Rattle.std.proofs.Common.{◌*◌, not, ◌&&◌, ltb, length, get_or, ap, subst, ◌∙◌, arith}
use Rattle.ml_lists.specs.Least.{least}
use Rattle.ml_lists.specs.Member.{IsMember}
use Rattle.ml_trace.specs.Stack.{has}
use Rattle.ml_history.specs.HistoryStep.{mark_of}
use Rattle.ml_history.specs.private.TreeStep.{flagged}
use Rattle.ml_history.specs.private.Vertices.{joined}
use Rattle.ml_history.proofs.trees.FlagsOfNames.{row_numbers}
use Rattle.ml_history.proofs.tree.renewal.renew.Goals as goal

pub flags_of-requires : goal.flags_of-requires
flags_of-requires c = λ y m. c.requires.names y
    (subst (IsMember y) (c.as_slice.ensures.value ∙ c.in_ok-names.ensures) m)

pub renewed-requires : goal.renewed-requires
renewed-requires c = λ y m.
    let low = c.requires.names y m in
    let standing = ap length c.as_slice-4.ensures.value in
    let numbers = ap length c.as_slice-5.ensures.value in
    omega (arith, low, standing, numbers, c.in_ok-numbers.ensures.count, c.in_ok-standing.ensures.count)

pub returns-clause-row : goal.returns-clause-row
returns-clause-row c =
    row_numbers (joined c.args.drafts.now) (joined c.in_ok-row.row.items) c.as_slice.result.now c.as_slice-4.result.now
    c.as_slice-5.result.now (2 * c.args.used)
    (c.as_slice.ensures.value ∙ c.in_ok-names.ensures)
    (ap flagged c.as_slice-4.ensures.value ∙ c.in_ok-standing.ensures.flags)
    (ap length c.as_slice-4.ensures.value ∙ c.in_ok-standing.ensures.count)
    c.requires.names
    (λ y low. ap (λ l. get_or l y 0) c.as_slice-5.ensures.value ∙ c.in_ok-numbers.ensures.numbers y low)
    c.in_ok-row.ensures

pub returns-clause-mark : goal.returns-clause-mark
returns-clause-mark c =
    let full = ap flagged c.as_slice-2.ensures.value ∙ c.in_ok-full.ensures.flags in
    let standing = ap flagged c.as_slice-3.ensures.value ∙ c.in_ok-standing.ensures.flags
    ∙ ap (λ ns y. has y ns) (c.as_slice.ensures.value ∙ c.in_ok-names.ensures) in
    c.mark-mark.ensures
    ∙ (λ i. mark_of (least (λ y. ltb y c.args.used && not (standing i y)) (2 * c.args.used))
    (least (λ y. full i y && standing i y) (2 * c.args.used)))
