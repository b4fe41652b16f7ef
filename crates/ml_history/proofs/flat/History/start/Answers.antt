use Rattle.std.proofs.Common.{◌∙◌}
use Rattle.ml_history.specs.private.Arrays.{read}
use Rattle.ml_history.proofs.arrays.FlatStep.{held_start}
use Rattle.ml_history.proofs.flat.History.start.Goals as goal

pub invariant_of-result : goal.invariant_of-result
invariant_of-result c =
    held_start c.args.state c.of.result c.requires
    (c.of.ensures ∙ (λ i. read (c.in_ok-states.ensures.items i) (c.in_ok-starts.ensures.items i)
    (c.in_ok-names.ensures.items i)))
