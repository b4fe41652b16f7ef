use Rattle.std.proofs.Common.{rules}
use Rattle.std.proofs.lemmas.List.Sorted.{IsNonDecreasingBy-from_sort, answers_always}
use Rattle.ml_trace.specs.declared.letters.Triple.{Triple}
use Rattle.ml_trace.proofs.numbering.by_target.Goals as goal

pub returns-clause-by_target : goal.returns-clause-by_target
returns-clause-by_target c =
    IsNonDecreasingBy-from_sort (λ (t : Triple). t.to) c.sort_unstable_by_key.new.self.items
    (c.sort_unstable_by_key.ensures.sorted (λ (t : Triple). t.to) (answers_always _ _ _ (λ f a r g h. search rules)))
