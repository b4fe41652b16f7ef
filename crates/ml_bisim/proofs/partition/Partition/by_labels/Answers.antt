use Rattle.std.proofs.Common.{All, ◌<◌, sym, subst}
use Rattle.ml_bisim.proofs.Turns.{all_low}
use Rattle.ml_bisim.proofs.partition.Partition.by_labels.Goals as goal

pub members-requires-clause-in_range : goal.members-requires-clause-in_range
members-requires-clause-in_range c =
    subst (All (λ k. k < c.in_ok-labels.labels.count)) (sym c.deref.ensures.value)
    (all_low c.in_ok-labels.labels.count c.in_ok-labels.labels.numbers.items c.in_ok-labels.ensures.in_turn)
