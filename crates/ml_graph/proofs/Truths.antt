-- The flags that say which propositions are labels, and how they grow label by label.
--
--   truth_more  == one label more, which is a proposition
--   truth_kept  == one label more, which is none
--   label_found, label_unknown == the same, of the labels up to a place and the one at it
use Rattle.std.proofs.Common.{ℕ, ◌≡◌, ◌+◌, ◌<◌, ◌==◌, ◌⊎◌, inl, inr, Bool, true, false, ◌||◌, List, [], ◌∷◌, ◌++◌, length, get_or, take, Some, None, sym, ap, ◌∙◌, subst, arith, set}
use Rattle.std.specs.List.{list_any, position, IsDistinct}
use Rattle.std.specs.Str.{bytes_eq}
use Rattle.std.proofs.lemmas.Bool.{cases_eq}
use Rattle.std.proofs.lemmas.Bool.Decides.{nat_tests}
use Rattle.std.proofs.lemmas.List.{get_or-set_same, get_or-set_other, length-set, take_more}
use Rattle.std.proofs.lemmas.List.Folds.{list_any-append}
use Rattle.std.proofs.Math.Bool.{or-false, or-true}
use Rattle.ml_graph.specs.private.Making.{HasTruths}
use Rattle.ml_graph.proofs.Places.{found_at, position_miss}

-- whether a name is a label, with one label more
label_more : (labels : List (List ℕ)) (x p : List ℕ) (b : Bool) → bytes_eq x p ≡ b
    → list_any (λ q. bytes_eq q p) (labels ++ x ∷ []) ≡ (list_any (λ q. bytes_eq q p) labels || (b || false))
label_more labels x p b is =
    list_any-append (λ q. bytes_eq q p) labels (x ∷ [])
    ∙ ap (λ c. list_any (λ q. bytes_eq q p) labels || (c || false)) is

pub truth_kept : (props labels : List (List ℕ)) (truths : List Bool) (x : List ℕ) → HasTruths props labels truths
    → ((p : ℕ) → p < length props → bytes_eq x (get_or props p []) ≡ false) → HasTruths props (labels ++ x ∷ []) truths
truth_kept props labels truths x has none = record {
  size = has.size;
  truth = λ p low.
      has.truth p low
      ∙ sym (or-false (list_any (λ q. bytes_eq q (get_or props p [])) labels))
      ∙ sym (label_more labels x (get_or props p []) false (none p low));
}

pub truth_more : (props labels : List (List ℕ)) (truths : List Bool) (x : List ℕ) (i : ℕ)
    → HasTruths props labels truths
    → i < length props
    → ((p : ℕ) → p < length props → bytes_eq x (get_or props p []) ≡ (p == i))
    → HasTruths props (labels ++ x ∷ []) (set truths i true)
truth_more props labels truths x i has i_low tests = record {
  size = length-set truths i true ∙ has.size;
  truth = λ p low. by_place p low (cases_eq p i);
}
  where
    by_place : (p : ℕ) → p < length props → (p ≡ i) ⊎ (p ≡ i → ⊥)
        → get_or (set truths i true) p false ≡ list_any (λ q. bytes_eq q (get_or props p [])) (labels ++ x ∷ [])
    by_place p low (inl here) =
        let test : (p == i) ≡ true = grind (arith, nat_tests) in
        ap (λ k. get_or (set truths i true) k false) here
        ∙ get_or-set_same truths i true false (omega (arith, has.size))
        ∙ sym (or-true (list_any (λ q. bytes_eq q (get_or props p [])) labels))
        ∙ sym (label_more labels x (get_or props p []) true (tests p low ∙ test))
    by_place p low (inr there) =
        let test : (p == i) ≡ false = grind (arith, nat_tests) in
        get_or-set_other truths i p true false there
        ∙ has.truth p low
        ∙ sym (or-false (list_any (λ q. bytes_eq q (get_or props p [])) labels))
        ∙ sym (label_more labels x (get_or props p []) false (tests p low ∙ test))

-- the labels up to a place, and the one at it
up_to : (labels : List (List ℕ)) (k : ℕ) (x : List ℕ) → k < length labels → x ≡ get_or labels k x
    → take k labels ++ x ∷ [] ≡ take (k + 1) labels
up_to labels k x low is = ap (λ y. take k labels ++ y ∷ []) is ∙ sym (take_more labels k x low)

pub label_found : (props labels : List (List ℕ)) (truths truths2 : List Bool) (k i : ℕ) (x : List ℕ)
    → IsDistinct bytes_eq props
    → HasTruths props (take k labels) truths
    → k < length labels
    → x ≡ get_or labels k x
    → position (bytes_eq x) props ≡ Some i
    → truths2 ≡ set truths i true
    → HasTruths props (take (k + 1) labels) truths2
label_found props labels truths truths2 k i x differ has low is found set_is =
    let place = found_at props differ x i found in
    let more = truth_more props (take k labels) truths x i has place.0 place.1 in
    subst (HasTruths props (take (k + 1) labels)) (sym set_is)
    (subst (λ ls. HasTruths props ls (set truths i true)) (up_to labels k x low is) more)

pub label_unknown : (props labels : List (List ℕ)) (truths truths2 : List Bool) (k : ℕ) (x : List ℕ)
    → HasTruths props (take k labels) truths
    → k < length labels
    → x ≡ get_or labels k x
    → position (bytes_eq x) props ≡ None
    → truths2 ≡ truths
    → HasTruths props (take (k + 1) labels) truths2
label_unknown props labels truths truths2 k x has low is unknown same =
    let kept = truth_kept props (take k labels) truths x has (position_miss (bytes_eq x) props [] unknown) in
    subst (HasTruths props (take (k + 1) labels)) (sym same)
    (subst (λ ls. HasTruths props ls truths) (up_to labels k x low is) kept)
