use Rattle.std.proofs.Common.{subst, sym, arith}
use Rattle.ml_lists.specs.Ascending.{IsAscending}
use Rattle.ml_lists.specs.Member.{IsMember}
use Rattle.ml_history.specs.private.TreeStep.{flagged}
use Rattle.ml_history.specs.private.Ways.{PassesDown}
use Rattle.ml_history.proofs.arrays.CutOffers.{source_low, source_ascends, end_low, standing_marked, ends_marked}
use Rattle.ml_history.proofs.flat.cutting.mark_offer.Goals as goal

pub set_flags-requires-clause-low : goal.set_flags-requires-clause-low
set_flags-requires-clause-low c = λ y m.
    let h = c.args.history.now in
    let low = source_low h c.requires.history.history c.args.offer.now c.requires.source y
    (subst (IsMember y) c.stack.ensures m) in
    omega (arith, low, c.requires.standing)

pub set_flags-requires-clause-ascend : goal.set_flags-requires-clause-ascend
set_flags-requires-clause-ascend c =
    subst IsAscending (sym c.stack.ensures)
    (source_ascends c.args.history.now c.requires.history.history c.args.offer.now c.requires.source)

pub set_flags-requires-clause-down : goal.set_flags-requires-clause-down
set_flags-requires-clause-down c =
    subst (PassesDown (flagged c.args.standing.now.items)) (sym c.stack.ensures) c.requires.down

pub set_flag-requires : goal.set_flag-requires
set_flag-requires c = omega (
  arith,
  c.end_of-end.ensures,
  end_low c.args.history.now c.requires.history.history c.args.offer.now c.requires.source,
  c.requires.standing,
  c.set_flags.ensures.count,
)

pub set_flag-requires-2 : goal.set_flag-requires-2
set_flag-requires-2 c = omega (
  arith,
  c.end_of-end.ensures,
  end_low c.args.history.now c.requires.history.history c.args.offer.now c.requires.source,
  c.requires.ends,
)

pub returns-clause-standing : goal.returns-clause-standing
returns-clause-standing c =
    standing_marked c.args.history.now c.requires.history.history c.args.offer.now c.requires.source c.end_of-end.result
    c.end_of-end.ensures
    c.args.standing.now.items c.set_flags.new.flags.items c.set_flag.new.flags.items c.stack.result.now
    c.stack.ensures c.set_flags.ensures.flags c.set_flag.ensures.flags

pub returns-clause-ends : goal.returns-clause-ends
returns-clause-ends c =
    ends_marked c.args.history.now c.requires.history.history c.args.offer.now c.requires.source c.end_of-end.result
    c.end_of-end.ensures c.args.ends.now.items c.set_flag-2.new.flags.items c.set_flag-2.ensures.flags
