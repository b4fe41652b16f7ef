use Rattle.std.proofs.Common.{◌∙◌, arith}
use Rattle.ml_bounded.proofs.WrittenOut.{next_counted, reach_counted}
use Rattle.ml_bounded.proofs.writing_out.bounded_size.Goals as goal

pub returns-in-Next : goal.returns-in-Next
returns-in-Next c =
    let bound = c.args.bound in
    λ f same. omega (arith, c.from.ensures, next_counted bound c.in-Next.count c.args.operand f c.in-Next.is same)

pub returns-in-Within : goal.returns-in-Within
returns-in-Within c =
    let read = c.in-Within in
    let counted = reach_counted c.args.bound read.field-0 read.first read.last c.args.operand c.from-more.result in
    let ahead = c.from-more.ensures ∙ c.saturating_sub.ensures in
    λ f same. omega (arith, c.from-in-Within.ensures, counted f read.is ahead same)
