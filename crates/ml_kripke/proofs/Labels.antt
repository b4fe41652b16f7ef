-- A search among the labels of a state finds a label exactly where the state lists it.
--
--   found_is_listed == so it does, since the labels of each state ascend
use Rattle.std.proofs.Common.{◌≡◌, ℕ, ◌<◌, List, [], length, get_or, Result, subst, ap, sym, ◌∙◌}
use Rattle.std.specs.List.{list_any}
use Rattle.std.specs.List.Sorted.{IsStrictlySortedBy, IsSearchInRange, IsBinarySearchResult}
use Rattle.std.specs.Ordering.{nat_cmp}
use Rattle.std.specs.Cmp.Lexicographic.{slice_cmp, texts_ties}
use Rattle.std.specs.Result.{is_ok}
use Rattle.std.specs.Str.{bytes_eq}
use Rattle.std.proofs.lemmas.Cmp.{nat_list_cmp_total}
use Rattle.ml_base.specs.Structure.{Structure, IsStructure, lists}
use Rattle.ml_lists.proofs.Searched.{found_in_order}
use Rattle.ml_kripke.specs.Ordered.{IsOrdered}

pub found_is_listed : (m : Structure) (s : ℕ) (p : List ℕ) (labels : List (List ℕ)) (found : Result ℕ ℕ) → IsStructure m → IsOrdered m
    → s < m.states → labels ≡ get_or m.labels s [] → IsSearchInRange found (length labels)
    → IsBinarySearchResult (λ q. slice_cmp nat_cmp q p) labels found → is_ok found ≡ lists m s p
found_is_listed m s p labels found structure ordered below are range ends =
    let in_range : s < length m.labels = subst (λ n. s < n) (sym structure.labels_states) below in
    let ascend = subst (IsStrictlySortedBy (slice_cmp nat_cmp)) (sym are) (ordered.labels_ascend s [] in_range) in
    found_in_order (slice_cmp nat_cmp) nat_list_cmp_total p labels found ascend range ends
    ∙ ap (λ test. list_any test labels) (λ i q. sym (texts_ties q p) i) ∙ ap (list_any (λ q. bytes_eq q p)) are
