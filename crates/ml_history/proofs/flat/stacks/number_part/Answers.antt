use Rattle.std.proofs.Common.{ℕ, ◌≡◌, ◌+◌, ◌-◌, ◌<◌, ◌≤◌, ◌∙◌, length, get_or, subst, sym, arith}
use Rattle.std.proofs.lemmas.List.{get_or_default}
use Rattle.ml_history.specs.private.Arrays.{IsNumberedPart}
use Rattle.ml_history.proofs.arrays.NumberedParts.{part_stop}
use Rattle.ml_history.proofs.flat.stacks.number_part.Goals as goal

pub returns-then-number-name : goal.returns-then-number-name
returns-then-number-name c =
    let number = λ (y : ℕ). get_or c.args.numbers.now y 0 in
    let i = c.loop-rest.rest - 1 in
    let old = c.args.names.now.items in
    let next : c.loop-rest.rest ≡ i + 1 = omega (arith, c.loop-rest-test.true) in
    let from : c.args.start ≤ i = omega (arith, c.loop-rest-test.true) in
    let to : i < c.args.end = omega (arith, c.loop-rest-test.true, c.loop-rest.invariant.to) in
    let part = subst (λ k. IsNumberedPart number k c.args.end old c.loop-rest.names.items) next
    c.loop-rest.invariant.part in
    let read : get_or c.loop-rest.names.items i 0 ≡ c.index-name.result.now =
    get_or_default c.loop-rest.names.items i 0 c.index-name.result.now
    (omega (arith, to, c.requires.fits, part.count)) ∙ sym c.index-name.ensures in
    part_stop number c.args.start i c.args.end (length c.args.numbers.now) old c.loop-rest.names.items from to
    c.requires.ascend c.requires.stays (c.requires.low i from to)
    (subst (λ v. number v ≡ v) (sym read) c.if-number-name.true) part
