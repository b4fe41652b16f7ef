use Rattle.std.proofs.Common.{◌≡◌, ◌+◌, ◌-◌, ◌<◌, ◌∙◌, true, false, length, get_or, subst, sym, arith}
use Rattle.std.proofs.Math.ListN.{length-set}
use Rattle.std.proofs.lemmas.List.{get_or_default}
use Rattle.ml_lists.proofs.Member.{place-member}
use Rattle.ml_history.specs.private.TreeStep.{flagged}
use Rattle.ml_history.proofs.arrays.FlagsAlongStacks.{FlagsFrom, flags-more, flags-stop}
use Rattle.ml_history.proofs.flat.cutting.set_flags.Goals as goal

pub index-requires : goal.index-requires
index-requires c =
    let i = c.loop-rest.rest - 1 in
    let inside : i < length c.args.stack.now = omega (arith, c.loop-rest-test.true, c.loop-rest.invariant.inside) in
    let low = c.requires.low (get_or c.args.stack.now i 0) (place-member c.args.stack.now i 0 inside) in
    omega (arith, low, c.loop-rest.invariant.count, c.loop-rest.flags.ok.0)

pub returns-then-index-clause-flags : goal.returns-then-index-clause-flags
returns-then-index-clause-flags c =
    let i = c.loop-rest.rest - 1 in
    let inside : i < length c.args.stack.now = omega (arith, c.loop-rest-test.true, c.loop-rest.invariant.inside) in
    let next : c.loop-rest.rest ≡ i + 1 = omega (arith, c.loop-rest-test.true) in
    let test = flagged c.args.flags.now.items in
    let low = c.requires.low (get_or c.args.stack.now i 0) (place-member c.args.stack.now i 0 inside) in
    flags-stop test c.args.stack.now i c.loop-rest.flags.items c.requires.ascend c.requires.down inside
    (subst (λ k. FlagsFrom test c.args.stack.now k c.loop-rest.flags.items) next c.loop-rest.invariant.flags)
    (get_or_default c.loop-rest.flags.items (get_or c.args.stack.now i 0) false c.index.result.now
    (omega (arith, low, c.loop-rest.invariant.count)) ∙ sym c.index.ensures ∙ c.if-index.true)

pub index_mut-requires : goal.index_mut-requires
index_mut-requires c =
    let i = c.loop-rest.rest - 1 in
    let inside : i < length c.args.stack.now = omega (arith, c.loop-rest-test.true, c.loop-rest.invariant.inside) in
    let low = c.requires.low (get_or c.args.stack.now i 0) (place-member c.args.stack.now i 0 inside) in
    omega (arith, low, c.loop-rest.invariant.count, c.loop-rest.flags.ok.0)

pub loop-rest-preserved : goal.loop-rest-preserved
loop-rest-preserved c =
    let i = c.loop-rest.rest - 1 in
    let inside : i < length c.args.stack.now = omega (arith, c.loop-rest-test.true, c.loop-rest.invariant.inside) in
    let next : c.loop-rest.rest ≡ i + 1 = omega (arith, c.loop-rest-test.true) in
    let test = flagged c.args.flags.now.items in
    let low = c.requires.low (get_or c.args.stack.now i 0) (place-member c.args.stack.now i 0 inside) in
    record {
      inside = omega (arith, inside);
      count = length-set c.loop-rest.flags.items (get_or c.args.stack.now i 0) true ∙ c.loop-rest.invariant.count;
      flags = flags-more test c.args.stack.now i c.loop-rest.flags.items inside
          (omega (arith, low, c.loop-rest.invariant.count))
          (subst (λ k. FlagsFrom test c.args.stack.now k c.loop-rest.flags.items) next c.loop-rest.invariant.flags);
    }
