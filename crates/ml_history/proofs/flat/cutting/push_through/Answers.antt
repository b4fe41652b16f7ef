use Rattle.std.proofs.Common.{get_or, arith}
use Rattle.ml_lists.proofs.Member.{place-member}
use Rattle.ml_history.specs.private.TreeStep.{flagged}
use Rattle.ml_history.proofs.arrays.CutOffers.{through_first, through_next, through_stop, through_end}
use Rattle.ml_history.proofs.flat.cutting.push_through.Goals as goal

pub loop-name-init : goal.loop-name-init
loop-name-init c = through_first (flagged c.args.full.now) c.args.stack.now c.args.names.now.items

pub bounds-full-name : goal.bounds-full-name
bounds-full-name c = c.requires (get_or c.args.stack.now c.loop-name.name-index 0)
    (place-member c.args.stack.now c.loop-name.name-index 0 c.loop-name-test.true)

pub returns-then-full-name-clause-names : goal.returns-then-full-name-clause-names
returns-then-full-name-clause-names c =
    (through_stop (flagged c.args.full.now) c.args.stack.now c.loop-name.name-index c.args.names.now.items
    c.loop-name.names.items c.push.new.self.items c.loop-name-test.true c.loop-name.invariant
    c.in_ok-push.ensures.items c.if-full-name.true).0

pub returns-then-full-name-clause-is_cut : goal.returns-then-full-name-clause-is_cut
returns-then-full-name-clause-is_cut c =
    (through_stop (flagged c.args.full.now) c.args.stack.now c.loop-name.name-index c.args.names.now.items
    c.loop-name.names.items c.push.new.self.items c.loop-name-test.true c.loop-name.invariant
    c.in_ok-push.ensures.items c.if-full-name.true).1

pub loop-name-preserved : goal.loop-name-preserved
loop-name-preserved c =
    through_next (flagged c.args.full.now) c.args.stack.now c.loop-name.name-index c.args.names.now.items
    c.loop-name.names.items c.push.new.self.items c.loop-name-test.true c.loop-name.invariant
    c.in_ok-push.ensures.items c.if-full-name.false

pub returns-clause-names : goal.returns-clause-names
returns-clause-names c = (through_end (flagged c.args.full.now) c.args.stack.now c.loop-name.name-index
    c.args.names.now.items c.loop-name.names.items (omega (arith, c.loop-name-test.false)) c.loop-name.invariant).0

pub returns-clause-is_cut : goal.returns-clause-is_cut
returns-clause-is_cut c = (through_end (flagged c.args.full.now) c.args.stack.now c.loop-name.name-index
    c.args.names.now.items c.loop-name.names.items (omega (arith, c.loop-name-test.false)) c.loop-name.invariant).1
