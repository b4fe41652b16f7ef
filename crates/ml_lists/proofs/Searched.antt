-- A binary search in a list that strictly ascends by an order.
--
--   rank            == 0, 1 or 2: is the entry below x, a tie, or above?
--   lower_ranks     == beside any x, what is less than y ranks no higher than y
--   ranks_rise      == so beside any x the ranks of such a list's entries don't fall
--   found_in_order  == the search for x finds a place exactly where some entry ties with x
use Rattle.std.proofs.Common.{◌≡◌, ℕ, ◌<◌, ◌≤◌, zero, suc, List, [], ◌∷◌, length, get_or, ◌+◌, Ordering, Result, Ok, Err, refl, sym, ap, ◌∙◌, subst, ⊎_elim, arith}
use Rattle.std.specs.Cmp.{IsTotalOrder}
use Rattle.std.specs.List.{list_any, AllAdjacentBelow}
use Rattle.std.specs.List.Sorted.{IsStrictlySortedBy, IsNonDecreasingBy, IsSearchInRange, IsBinarySearchResult}
use Rattle.std.specs.Ordering.{ordering_index, ordering_reverse, is_eq}
use Rattle.std.specs.Result.{is_ok}
use Rattle.std.specs.declared.cmp.Ordering.TheVariants.{Less, Equal, Greater}
use Rattle.std.proofs.lemmas.Bool.{cases_lt}
use Rattle.std.proofs.lemmas.List.Folds.{list_any_at, list_any_none}
use Rattle.std.proofs.lemmas.List.Sorted.{IsNonDecreasingBy-from_all_adjacent}

module _ {K : Type 0} (R : K → K → Ordering) (order : IsTotalOrder R) (x : K) where
  abbrev pub rank : K → ℕ
  rank y = ordering_index (R y x)

  at_most_two : (o : Ordering) → ordering_index o ≤ 2
  at_most_two Less = omega arith
  at_most_two Equal = omega arith
  at_most_two Greater = omega arith

  lower_ranks : (y z : K) → R y z ≡ Less → rank y ≤ rank z
  lower_ranks y z less = by_order (R z x) refl
    where
      least : R y x ≡ Less → rank y ≤ rank z
      least is = subst (λ o. ordering_index o ≤ rank z) (sym is) (omega arith)

      by_order : (o : Ordering) → R z x ≡ o → rank y ≤ rank z
      by_order Less is = least (order.trans y z x less is)
      by_order Equal is = least (order.antisymm y x ∙ sym (ap ordering_reverse (order.congr z x y is)) ∙ sym (order.antisymm y z) ∙ less)
      by_order Greater is = subst (λ o. rank y ≤ ordering_index o) (sym is) (at_most_two (R y x))

  neighbours_rise : (xs : List K) → IsStrictlySortedBy R xs → AllAdjacentBelow (λ y z. rank y ≤ rank z) xs (length xs)
  unfolding IsStrictlySortedBy
  neighbours_rise [] up k d below = absurd (omega (arith, below))
  neighbours_rise (y ∷ []) up k d below = absurd (omega (arith, below))
  neighbours_rise (y ∷ z ∷ zs) up zero d below = lower_ranks y z up.0.0
  neighbours_rise (y ∷ z ∷ zs) up (suc k) d below =
      subst (λ n. rank (get_or (z ∷ zs) k d) ≤ rank (get_or (y ∷ z ∷ zs) n d)) {x = suc (k + 1)} (omega arith)
      (neighbours_rise (z ∷ zs) up.1 k d (omega (arith, below)))

  pub ranks_rise : (xs : List K) → IsStrictlySortedBy R xs → IsNonDecreasingBy rank xs
  ranks_rise xs up = IsNonDecreasingBy-from_all_adjacent rank xs (neighbours_rise xs up)

  pub found_in_order : (xs : List K) (r : Result ℕ ℕ) → IsStrictlySortedBy R xs → IsSearchInRange r (length xs)
      → IsBinarySearchResult (λ y. R y x) xs r → is_ok r ≡ list_any (λ y. is_eq (R y x)) xs
  found_in_order [] (Ok i) up range found = absurd (omega (arith, range))
  found_in_order (y ∷ ys) (Ok i) up range found = sym (list_any_at (λ z. is_eq (R z x)) (y ∷ ys) i y range (ap is_eq (found y)))
  found_in_order xs (Err i) up range found =
      let parted = found (ranks_rise xs up) in
      sym (list_any_none (λ z. is_eq (R z x)) xs (λ k d l.
      ⊎_elim
      (λ (below : k < i). ap is_eq (parted.0 k d (omega (arith, below)) below))
      (λ (behind : i ≤ k). ap is_eq (parted.1 k d behind l))
      (cases_lt k i)))
