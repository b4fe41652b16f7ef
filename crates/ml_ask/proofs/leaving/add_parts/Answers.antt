use Rattle.std.proofs.Common.{◌<◌, length, subst, arith}
use Rattle.ml_spec.specs.Questions.{is_in}
use Rattle.ml_ask.specs.private.Steps.{IsSmaller}
use Rattle.ml_ask.proofs.Refuted.{less_count, refuted_less}
use Rattle.ml_ask.proofs.leaving.add_parts.Goals as goal

pub loop-number-preserved : goal.loop-number-preserved
loop-number-preserved c =
    let a = c.args.asked in
    let k = c.in-Some.number in
    let old = c.loop-number.refuted in
    let found = rw c.in-Some.is at c.in_ok-number.ensures in
    let smaller = subst (λ bs. IsSmaller a (is_in bs) k c.in-Some.refutation) c.deref.ensures.value found in
    let within : k < length old.taken.items = omega (arith, c.loop-number.invariant.are_told, smaller.within) in
    refuted_less a old c.drop_one.new.refuted k c.in-Some.refutation c.loop-number.invariant within
    c.drop_one.ensures.taken c.drop_one.ensures.refutation smaller.are_refuted

pub loop-number-smaller : goal.loop-number-smaller
loop-number-smaller c =
    let a = c.args.asked in
    let k = c.in-Some.number in
    let old = c.loop-number.refuted in
    let found = rw c.in-Some.is at c.in_ok-number.ensures in
    let smaller = subst (λ bs. IsSmaller a (is_in bs) k c.in-Some.refutation) c.deref.ensures.value found in
    let within : k < length old.taken.items = omega (arith, c.loop-number.invariant.are_told, smaller.within) in
    less_count old.taken.items c.drop_one.new.refuted.taken.items (length a.specification.now.items.items) k within
    smaller.within smaller.is_taken c.drop_one.ensures.taken
