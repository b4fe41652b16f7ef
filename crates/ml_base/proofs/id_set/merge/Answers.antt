-- Each turn is one step of the merge, by the order of the two heads.
use Rattle.std.proofs.Common.{sym, subst, arith}
use Rattle.ml_base.proofs.Merging.{Merged, merge_start, less_step, greater_step, equal_step, ends_left, ends_right}
use Rattle.ml_base.proofs.id_set.merge.Goals as goal

pub loop-xs-init : goal.loop-xs-init
loop-xs-init c =
    let start = merge_start c.args.left.now c.args.right.now c.requires.left c.requires.right in
    subst (λ out. Merged c.args.left.now c.args.right.now out c.args.left.now c.args.right.now) (sym c.new-both.ensures.items) start

pub loop-xs-preserved-in-Less : goal.loop-xs-preserved-in-Less
loop-xs-preserved-in-Less c =
    less_step c.args.left.now c.args.right.now c.loop-xs.both.items c.push.new.self.items c.loop-xs.xs.now c.loop-xs.ys.now (omega arith) (omega arith)
    c.in-Less.ensures c.in_ok-push-in-Less.ensures.items c.loop-xs.invariant

pub loop-xs-preserved-in-Greater : goal.loop-xs-preserved-in-Greater
loop-xs-preserved-in-Greater c =
    greater_step c.args.left.now c.args.right.now c.loop-xs.both.items c.push-in-Greater.new.self.items c.loop-xs.xs.now c.loop-xs.ys.now (omega arith) (omega arith)
    c.in-Greater.ensures c.in_ok-push-in-Greater.ensures.items c.loop-xs.invariant

pub loop-xs-preserved : goal.loop-xs-preserved
loop-xs-preserved c =
    equal_step c.args.left.now c.args.right.now c.loop-xs.both.items c.push-in-Equal.new.self.items c.loop-xs.xs.now c.loop-xs.ys.now (omega arith) (omega arith)
    c.in-Equal.ensures c.in_ok-push-in-Equal.ensures.items c.loop-xs.invariant

pub returns-in_default-ys-clause-value : goal.returns-in_default-ys-clause-value
returns-in_default-ys-clause-value c =
    (ends_right c.args.left.now c.args.right.now c.loop-xs.both.items c.extend_from_slice.new.self.items c.loop-xs.xs.now c.loop-xs.ys.now (omega arith)
    c.in_ok-extend_from_slice.ensures.items c.loop-xs.invariant).0

pub returns-in_default-ys-clause-ascends : goal.returns-in_default-ys-clause-ascends
returns-in_default-ys-clause-ascends c =
    (ends_right c.args.left.now c.args.right.now c.loop-xs.both.items c.extend_from_slice.new.self.items c.loop-xs.xs.now c.loop-xs.ys.now (omega arith)
    c.in_ok-extend_from_slice.ensures.items c.loop-xs.invariant).1

pub returns-clause-value : goal.returns-clause-value
returns-clause-value c =
    (ends_left c.args.left.now c.args.right.now c.loop-xs.both.items c.extend_from_slice-2.new.self.items c.loop-xs.xs.now c.loop-xs.ys.now (omega arith)
    c.in_ok-extend_from_slice-2.ensures.items c.loop-xs.invariant).0

pub returns-clause-ascends : goal.returns-clause-ascends
returns-clause-ascends c =
    (ends_left c.args.left.now c.args.right.now c.loop-xs.both.items c.extend_from_slice-2.new.self.items c.loop-xs.xs.now c.loop-xs.ys.now (omega arith)
    c.in_ok-extend_from_slice-2.ensures.items c.loop-xs.invariant).1
