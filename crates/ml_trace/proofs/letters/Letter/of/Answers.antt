use Rattle.std.proofs.Common.{rules, ◌<◌, ◌^◌}
use Rattle.std.proofs.lemmas.List.Sorted.{IsNonDecreasingBy-from_sort, answers_always, All-permutation}
use Rattle.ml_trace.specs.declared.letters.Transition.{Transition}
use Rattle.ml_trace.proofs.letters.Letter.of.Goals as goal

pub invariant_of-result : goal.invariant_of-result
invariant_of-result c = record {
  small_ends =
      All-permutation (λ (t : Transition). (t.from < 2 ^ 30) × (t.to < 2 ^ 30)) c.args.transitions.items
      c.sort_unstable_by_key.new.self.items c.sort_unstable_by_key.ensures.permutation c.requires;
  by_target = IsNonDecreasingBy-from_sort (λ (t : Transition). t.to) c.sort_unstable_by_key.new.self.items
      (c.sort_unstable_by_key.ensures.sorted (λ (t : Transition). t.to) (answers_always _ _ _ (λ f a r g h. search rules)));
}
