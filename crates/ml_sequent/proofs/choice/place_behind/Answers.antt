use Rattle.std.proofs.Common.{arith}
use Rattle.ml_sequent.specs.declared.choice.Side.TheVariants.{Left}
use Rattle.ml_sequent.proofs.Choices.{with_side_split, no_greater}
use Rattle.ml_sequent.proofs.choice.place_behind.Goals as goal

pub returns-else-node-pairs-clause-split : goal.returns-else-node-pairs-clause-split
returns-else-node-pairs-clause-split c = λ side.
    let i = c.loop-place.place in
    with_side_split c.args.pairs.now c.args.node side i (0, Left) c.loop-place.invariant.within
    (no_greater c.args.pairs.now c.args.node i (0, Left) c.requires c.loop-place.invariant.within (λ some. c.if-node-pairs.false))
    (λ low. c.loop-place.invariant.behind (0, Left) low)

pub returns-after-loop-place-clause-split : goal.returns-after-loop-place-clause-split
returns-after-loop-place-clause-split c = λ side.
    let i = c.loop-place.place in
    with_side_split c.args.pairs.now c.args.node side i (0, Left) c.loop-place.invariant.within
    (λ k low. absurd (omega arith))
    (λ low. c.loop-place.invariant.behind (0, Left) low)
