-- The propositions that a state of a structure lists.
--
--   lists_iff  == a state lists a proposition exactly where it stands in the state's labels
use Rattle.std.proofs.Common.{◌≡◌, ℕ, true, List, [], slice_index_or, refl, subst, ◌↔◌}
use Rattle.std.specs.Prelude.{Contains, Any}
use Rattle.std.specs.List.{list_any}
use Rattle.std.specs.Str.{bytes_eq}
use Rattle.std.proofs.lemmas.List.Folds.{Any-from_list_any, list_any-from_Any}
use Rattle.std.proofs.lemmas.Slice.Eq.{bytes_eq-Decides}
use Rattle.ml_base.specs.Structure.{Structure, lists}

-- the test of a name among others finds it exactly where it is one of them
pub among_iff : (ps : List (List ℕ)) (p : List ℕ) → (list_any (λ q. bytes_eq q p) ps ≡ true) ↔ Contains ps p
among_iff ps p = (found_contains, contains_found)
  where
    found_contains : list_any (λ q. bytes_eq q p) ps ≡ true → Contains ps p
    found_contains found =
        let any : Any (λ q. bytes_eq q p ≡ true) ps = Any-from_list_any (λ q. bytes_eq q p) ps found in
        let same : any.1 ≡ p = (bytes_eq-Decides any.1 p).0 any.4 in
        subst (Contains ps) same (any.0, any.2, any.3)

    contains_found : Contains ps p → list_any (λ q. bytes_eq q p) ps ≡ true
    contains_found here =
        list_any-from_Any (λ q. bytes_eq q p) ps (here.0, p, here.1, here.2, (bytes_eq-Decides p p).1 refl)

pub lists_iff : (m : Structure) (s : ℕ) (p : List ℕ) → (lists m s p ≡ true) ↔ Contains (slice_index_or m.labels s []) p
lists_iff m s p = among_iff (slice_index_or m.labels s []) p
