use Rattle.std.proofs.Common.{rules, ◌≡◌, sym, subst}
use Rattle.std.proofs.lemmas.List.Sorted.{IsNonDecreasingBy-from_sort_by_key, IsPermutation-sym}
use Rattle.ml_lists.specs.Member.{IsMember}
use Rattle.ml_lists.proofs.Permuted.{permuted-member}
use Rattle.ml_trace.specs.declared.letters.Transition.{Transition}
use Rattle.ml_emptiness.proofs.leaving.BySource.of.Goals as goal

pub invariant_of-result : goal.invariant_of-result
invariant_of-result c = IsNonDecreasingBy-from_sort_by_key (λ (t : Transition). t.from) c.sort_by_key.new.self.items
    c.in_ok-sort_by_key.ensures.sorted (λ a r q k. search rules)

pub returns : goal.returns
returns c =
    let before = c.in_ok-transitions.transitions.items in
    let after = c.sort_by_key.new.self.items in
    let is : before ≡ c.args.letter.now = c.in_ok-transitions.ensures.items in
    let moved = c.in_ok-sort_by_key.ensures.permutation in
    λ t. (
      λ m. subst (IsMember t) is (permuted-member t after before (IsPermutation-sym before after moved) m),
      λ m. permuted-member t before after moved (subst (IsMember t) (sym is) m),
    )
