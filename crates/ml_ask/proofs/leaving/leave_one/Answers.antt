use Rattle.std.proofs.Common.{◌<◌, length, subst, arith}
use Rattle.ml_spec.specs.Questions.{is_in}
use Rattle.ml_replies.specs.Meeting.{without}
use Rattle.ml_ask.specs.private.Steps.{AreRefutedBy}
use Rattle.ml_ask.proofs.Refuted.{refuted_less}
use Rattle.ml_ask.proofs.leaving.leave_one.Goals as goal

pub returns-in-Ok-Drop : goal.returns-in-Ok-Drop
returns-in-Ok-Drop c =
    let a = c.args.asked in
    let k = c.args.number in
    let old = c.args.refuted.now in
    let within : k < length old.taken.items = omega (arith, c.requires.refuted.are_told, c.requires.number) in
    let found = rw c.in-Ok-Drop.field-0-is at c.in-Ok-Drop.ensures in
    let smaller = subst (λ bs. AreRefutedBy a (without (is_in bs) k) c.in-Ok-Drop.refutation) c.deref.ensures.value found in
    refuted_less a old c.drop_one.new.refuted k c.in-Ok-Drop.refutation c.requires.refuted within
    c.drop_one.ensures.taken c.drop_one.ensures.refutation smaller
