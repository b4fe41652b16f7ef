-- Each letter has its names in ascending order, each once.
--
--   in_order l    == the names of the letter l, so
--   order_ascends == they ascend
--   order_has     == they are those of the letter
use Rattle.std.proofs.Common.{ℕ, ◌≡◌, List, bytes_eq}
use Rattle.std.specs.Cmp.Lexicographic.{slice_cmp}
use Rattle.std.specs.List.Sorted.{IsStrictlySortedBy}
use Rattle.std.specs.Ordering.{nat_cmp}
use Rattle.std.proofs.lemmas.Cmp.{nat_list_cmp_total}
use Rattle.std.proofs.lemmas.Map.Lookups.{exact_bytes}
use Rattle.ml_lists.proofs.SortedLists.{Sorted, sorted}
use Rattle.ml_lists.proofs.Within.{members-list_any}
use Rattle.ml_word_automaton.specs.Words.{Letter, has}

in_turn : (l : Letter) → Sorted (slice_cmp nat_cmp) l
in_turn l = sorted (slice_cmp nat_cmp) nat_list_cmp_total exact_bytes l

pub in_order : Letter → Letter
in_order l = (in_turn l).list

pub order_ascends : (l : Letter) → IsStrictlySortedBy (slice_cmp nat_cmp) (in_order l)
unfolding in_order
order_ascends l = (in_turn l).ascends

pub order_has : (l : Letter) (p : List ℕ) → has (in_order l) p ≡ has l p
unfolding in_order
order_has l p = members-list_any (λ q. bytes_eq q p) (in_order l) l (in_turn l).inside (in_turn l).all
