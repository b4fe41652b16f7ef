use Rattle.std.proofs.Common.{rules}
use Rattle.std.proofs.lemmas.List.Sorted.{IsNonDecreasingBy-from_sort_by_key}
use Rattle.ml_lists.proofs.Permuted.{same_members}
use Rattle.ml_trace.specs.declared.letters.Triple.{Triple}
use Rattle.ml_refute_check.proofs.by_node.sort_by_target.Goals as goal

pub returns-clause-rise : goal.returns-clause-rise
returns-clause-rise c =
    IsNonDecreasingBy-from_sort_by_key (λ (t : Triple). t.to) _ c.sort_unstable_by_key.ensures.sorted
    (λ a r q k. search rules)

pub returns-clause-same : goal.returns-clause-same
returns-clause-same c t = same_members t _ _ c.sort_unstable_by_key.ensures.permutation
