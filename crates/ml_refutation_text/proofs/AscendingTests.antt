-- Whether numbers ascend, tested one by one.
--
--   behind_more, behind_less, behind_done == the next number is above the one before it, isn't, or there is none
--   ascends_is, ascends_not    == what the test says of the list
--   below_is, below_not        == what the test says whether numbers are below a bound
--   last_tells                 == the last of ascending numbers tells whether all are
use Rattle.std.proofs.Common.{◌≡◌, ℕ, ◌+◌, ◌-◌, ◌<◌, ◌≤◌, ◌⊎◌, ◌↔◌, Bool, true, false, ◌&&◌, nat_lt, ltb, IsTrue, List, [], ◌∷◌, length, get_or, drop, All, inl, inr, refl, sym, subst, ap, ◌∙◌, arith}
use Rattle.std.specs.List.{list_all}
use Rattle.std.proofs.lemmas.Bool.{true≢false, and_parts, ltb-true, ltb-false, cases_Bool}
use Rattle.std.proofs.lemmas.Bool.Decides.{nat_tests}
use Rattle.std.proofs.lemmas.List.{drop_more, drop_all, get_or_default}
use Rattle.std.proofs.lemmas.List.Elements.{All-nil, All-cons, All-head, All-tail}
use Rattle.ml_lists.specs.Ascending.{IsAscending}
use Rattle.ml_lists.proofs.Ascending.{ascending-one, ascending-cons, ascending-apart}
use Rattle.ml_refutation_text.specs.private.ItemReads.{ascends_behind}

less_test : (x y : ℕ) → x < y → nat_lt x y ≡ true
less_test x y less = grind (arith, nat_tests)

no_less_test : (x y : ℕ) → y ≤ x → nat_lt x y ≡ false
no_less_test x y past = grind (arith, nat_tests)

test_less : (x y : ℕ) → nat_lt x y ≡ true → x < y
test_less x y is = grind (arith, nat_tests)

test_no_less : (x y : ℕ) → nat_lt x y ≡ false → y ≤ x
test_no_less x y is = grind (arith, nat_tests)

module _ (first last i : ℕ) (xs : List ℕ) (so_far : ascends_behind first xs ≡ ascends_behind last (drop i xs)) where
  pub behind_more : i < length xs
      → last < get_or xs i 0
      → ascends_behind first xs ≡ ascends_behind (get_or xs i 0) (drop (i + 1) xs)
  behind_more here less =
      so_far ∙ ap (ascends_behind last) (drop_more xs i 0 here)
      ∙ ap (λ b. b && ascends_behind (get_or xs i 0) (drop (i + 1) xs)) (less_test last (get_or xs i 0) less)

  pub behind_less : i < length xs → get_or xs i 0 ≤ last → ascends_behind first xs ≡ false
  behind_less here past =
      so_far ∙ ap (ascends_behind last) (drop_more xs i 0 here)
      ∙ ap (λ b. b && ascends_behind (get_or xs i 0) (drop (i + 1) xs)) (no_less_test last (get_or xs i 0) past)

  pub behind_done : length xs ≤ i → ascends_behind first xs ≡ true
  behind_done past = so_far ∙ ap (ascends_behind last) (drop_all i xs past)

pub ascends_is : (x : ℕ) (xs : List ℕ) → ascends_behind x xs ≡ true → IsAscending (x ∷ xs)
ascends_is x [] is = ascending-one x
ascends_is x (y ∷ ys) is =
    let parts = and_parts (nat_lt x y) (ascends_behind y ys) is in
    ascending-cons x y ys (test_less x y parts.0) (ascends_is y ys parts.1)

pub ascends_not : (x : ℕ) (xs : List ℕ) → ascends_behind x xs ≡ false → ¬ (IsAscending (x ∷ xs))
ascends_not x [] is ascends = true≢false is
ascends_not x (y ∷ ys) is ascends = go (nat_lt x y) refl is (ascends_not y ys)
  where
    go : (b : Bool)
        → nat_lt x y ≡ b
        → (b && ascends_behind y ys) ≡ false
        → (ascends_behind y ys ≡ false → ¬ (IsAscending (y ∷ ys)))
        → ⊥
    go true less rest others = others rest ascends.1
    go false past rest others =
        let under = test_no_less x y past in let above = ascends.0 y (inl refl) in absurd (omega (arith, under, above))

pub below_is : (bound : ℕ) (xs : List ℕ) → list_all (λ n. nat_lt n bound) xs ≡ true → All (λ x. x < bound) xs
below_is bound [] is = All-nil (λ (x : ℕ). x < bound)
below_is bound (x ∷ xs) is =
    let parts = and_parts (nat_lt x bound) (list_all (λ n. nat_lt n bound) xs) is in
    All-cons (λ (y : ℕ). y < bound) x xs (test_less x bound parts.0) (below_is bound xs parts.1)

pub below_not : (bound : ℕ) (xs : List ℕ) → list_all (λ n. nat_lt n bound) xs ≡ false → ¬ (All (λ x. x < bound) xs)
below_not bound [] is all = true≢false is
below_not bound (x ∷ xs) is all = go (nat_lt x bound) refl is (below_not bound xs)
  where
    go : (b : Bool) → nat_lt x bound ≡ b → (b && list_all (λ n. nat_lt n bound) xs) ≡ false
        → (list_all (λ n. nat_lt n bound) xs ≡ false → ¬ (All (λ y. y < bound) xs)) → ⊥
    go true less rest others = others rest (All-tail (λ (y : ℕ). y < bound) x xs all)
    go false past rest others =
        let under = test_no_less x bound past in
        let below = All-head (λ (y : ℕ). y < bound) x xs all in
        absurd (omega (arith, under, below))

-- the last of ascending numbers tells whether all are below a bound
pub last_tells : (xs : List ℕ) (bound : ℕ)
    → IsAscending xs
    → 0 < length xs
    → IsTrue (ltb (get_or xs (length xs - 1) 0) bound) ↔ All (λ n. n < bound) xs
last_tells xs bound ascends some = (λ h k d low. below (ltb-true _ bound h) k d low (cases_Bool (ltb k last)), λ all. back (all last 0 (omega arith)))
  where
    last : ℕ
    last = length xs - 1

    below : get_or xs last 0 < bound
        → (k d : ℕ)
        → k < length xs
        → (ltb k last ≡ true) ⊎ (ltb k last ≡ false)
        → get_or xs k d < bound
    below high k d low (inl t) =
        let apart = ascending-apart xs k last 0 ascends (ltb-true k last t) (omega arith) in
        omega (arith, high, apart, get_or_default xs k d 0 low)
    below high k d low (inr f) =
        let same : k ≡ last = let least = ltb-false k last f in omega (arith, least, low) in
        subst (λ n. n < bound) (sym (get_or_default xs k d 0 low ∙ ap (λ i. get_or xs i 0) same)) high

    back : get_or xs last 0 < bound → IsTrue (ltb (get_or xs last 0) bound)
    back low = grind (arith, nat_tests)
