use Rattle.std.proofs.Common.{◌∙◌, length, get_or, sym, ap, subst, arith}
use Rattle.ml_lists.specs.Ascending.{IsAscending}
use Rattle.ml_lists.specs.Member.{IsMember}
use Rattle.ml_lists.proofs.Ascending.{ascending-is, ascending-member, member-ascending, length-ascending}
use Rattle.ml_lists.proofs.Member.{place-member}
use Rattle.ml_sequent.proofs.levels.ranked.Goals as goal

pub rank_in-requires-clause-ascends : goal.rank_in-requires-clause-ascends
rank_in-requires-clause-ascends c =
    subst IsAscending (sym (c.deref.ensures.value ∙ c.ascending-priorities.ensures))
    (ascending-is c.in_ok-from_slice.field-0.items)

pub rank_in-requires-clause-few : goal.rank_in-requires-clause-few
rank_in-requires-clause-few c =
    let few = length-ascending c.in_ok-from_slice.field-0.items in
    let same = ap length (c.deref.ensures.value ∙ c.ascending-priorities.ensures) in
    let all = ap length (c.in_ok-from_slice.ensures.items ∙ c.priorities.ensures) in
    let fits = c.ranges.nodes.fits in
    omega (arith, c.requires.priorities)

pub rank_in-requires-clause-has : goal.rank_in-requires-clause-has
rank_in-requires-clause-has c =
    let all = c.in_ok-from_slice.ensures.items ∙ c.priorities.ensures in
    let here =
    place-member c.priorities-priority-items.result.now c.loop-priority.priority-index 0 c.loop-priority-test.true in
    let x = get_or c.priorities-priority-items.result.now c.loop-priority.priority-index 0 in
    let own : IsMember x c.in_ok-from_slice.field-0.items =
    subst (IsMember x) (c.priorities-priority-items.ensures ∙ sym all) here in
    subst (IsMember x) (sym (c.deref.ensures.value ∙ c.ascending-priorities.ensures))
    (member-ascending x c.in_ok-from_slice.field-0.items own)

pub returns-clause-ranked : goal.returns-clause-ranked
returns-clause-ranked c =
    let long = ap length c.priorities-priority-items.ensures in
    let before = c.loop-priority.invariant in
    let all = c.ascending-priorities.ensures in
    record {
      ascends = subst IsAscending (sym all) (ascending-is c.in_ok-from_slice.field-0.items);
      occur = λ p h. subst (IsMember p) (c.in_ok-from_slice.ensures.items ∙ c.priorities.ensures)
          (ascending-member p c.in_ok-from_slice.field-0.items (subst (IsMember p) all h));
      sizes = omega (arith, before.sized, c.requires.priorities, c.requires.size);
      low = λ n low. before.low n (omega (arith, c.requires.priorities, c.requires.size));
      right = λ n low. before.right n (omega (arith, c.requires.priorities, c.requires.size));
    }

pub returns-clause-few : goal.returns-clause-few
returns-clause-few c =
    let few = length-ascending c.in_ok-from_slice.field-0.items in
    let same = ap length c.ascending-priorities.ensures in
    let all = ap length (c.in_ok-from_slice.ensures.items ∙ c.priorities.ensures) in
    let fits = c.ranges.nodes.fits in
    omega (arith, c.requires.priorities)
