use Rattle.std.proofs.Common.{ℕ, ◌<◌, [], length, ap, subst, sym, arith}
use Rattle.ml_lists.specs.Ascending.{IsAscending}
use Rattle.ml_lists.specs.Member.{IsMember}
use Rattle.ml_lists.proofs.Member.{place-member}
use Rattle.ml_trace.specs.Stack.{Item}
use Rattle.ml_history.specs.private.TreeStep.{flagged}
use Rattle.ml_history.specs.private.Ways.{PassesDown}
use Rattle.ml_history.specs.private.Keys.{item_at}
use Rattle.ml_history.proofs.arrays.FlagsAlongStacks.{stacks_none, stacks_down}
use Rattle.ml_history.proofs.arrays.FlatStep.{stack-names}
use Rattle.ml_history.proofs.flat.cutting.standing.Goals as goal

pub loop-i-init : goal.loop-i-init
loop-i-init c = record {
  count = c.in_ok-flags.ensures.count;
  flags = stacks_none c.args.stacks.now c.in_ok-flags.flags.items (λ y. ap (λ t. t y) c.in_ok-flags.ensures.flags);
}

pub set_flags-requires-clause-low : goal.set_flags-requires-clause-low
set_flags-requires-clause-low c = λ y m.
    let inside : c.loop-i.i < length c.args.stacks.now = omega (arith, c.loop-i-test.true, c.len-i-end.ensures) in
    let low = c.requires.low y
    (stack-names c.args.stacks.now c.loop-i.i y inside (subst (IsMember y) c.stack.ensures m)) in
    omega (arith, low, c.loop-i.invariant.count)

pub set_flags-requires-clause-ascend : goal.set_flags-requires-clause-ascend
set_flags-requires-clause-ascend c =
    let d : Item ℕ = record { state = 0; stack = [] } in
    let inside : c.loop-i.i < length c.args.stacks.now = omega (arith, c.loop-i-test.true, c.len-i-end.ensures) in
    subst IsAscending (sym c.stack.ensures)
    (c.requires.ways.ascend (item_at c.args.stacks.now c.loop-i.i) (place-member c.args.stacks.now c.loop-i.i d inside))

pub set_flags-requires-clause-down : goal.set_flags-requires-clause-down
set_flags-requires-clause-down c =
    let d : Item ℕ = record { state = 0; stack = [] } in
    let inside : c.loop-i.i < length c.args.stacks.now = omega (arith, c.loop-i-test.true, c.len-i-end.ensures) in
    subst (PassesDown (flagged c.loop-i.flags.items)) (sym c.stack.ensures)
    (stacks_down c.args.stacks.now c.loop-i.i d c.loop-i.flags.items c.requires.ways inside c.loop-i.invariant.flags)
