-- The places of a list, as they are linked.
--
--   last_entry   == the entry that was put behind a list
--   Linked       == the first k places are linked
--   linked_more  == with one place more
use Rattle.std.proofs.Common.{ℕ, ◌≡◌, ◌≢◌, ◌+◌, ◌<◌, ◌≤◌, ◌⊎◌, inl, inr, List, [], ◌∷◌, ◌++◌, length, length-append, get_or, set, sym, ap, ◌∙◌, subst, arith}
use Rattle.std.proofs.lemmas.Bool.{cases_eq}
use Rattle.std.proofs.lemmas.List.{get_or-set_same, get_or-set_other, get_or_append_left, get_or_push, length-set}
use Rattle.ml_bisim.specs.private.Places.{IsLastBefore}

pub last_entry : {X : Type 0} (xs : List X) (x d : X) (k : ℕ) → k ≡ length xs → get_or (xs ++ x ∷ []) k d ≡ x
last_entry xs x d k e = get_or_push xs x d k (sym e)

-- with one place more, at which y stands
other_number : (xs : List ℕ) (k x b : ℕ) → get_or xs k 0 ≢ x → IsLastBefore xs k x b → IsLastBefore xs (k + 1) x b
other_number xs k x b other is = record {
  before = omega (arith, is.before);
  stands = is.stands;
  none_later = λ i le low. by_case i le low (cases_eq i k);
}
  where
    by_case : (i : ℕ) → b ≤ i → i < k + 1 → (i ≡ k) ⊎ (i ≡ k → ⊥) → get_or xs i 0 ≢ x
    by_case i le low (inl same) = λ e. other (sym (ap (λ j. get_or xs j 0) same) ∙ e)
    by_case i le low (inr apart) = is.none_later i le (omega (arith, low, apart))

same_number : (xs : List ℕ) (k x b : ℕ) → get_or xs k 0 ≡ x → b ≡ k + 1 → IsLastBefore xs (k + 1) x b
same_number xs k x b here e = record {
  before = omega (arith, e);
  stands = λ i is. let same : i ≡ k = omega (arith, is, e) in ap (λ j. get_or xs j 0) same ∙ here;
  none_later = λ i le low. absurd (omega (arith, le, low, e));
}

pub record Linked (xs : List ℕ) (bound k : ℕ) (last before : List ℕ) : Type 0 where
  pub each_number : length last ≡ bound
  pub each_place : length before ≡ k
  pub last_of : (x : ℕ) → x < bound → IsLastBefore xs k x (get_or last x 0)
  pub links : (i : ℕ) → i < k → IsLastBefore xs i (get_or xs i 0) (get_or before i 0)

pub linked_more : (xs : List ℕ) (bound k x : ℕ) (last before new_last new_before : List ℕ)
    → Linked xs bound k last before
    → get_or xs k 0 ≡ x
    → x < bound
    → new_before ≡ before ++ get_or last x 0 ∷ []
    → new_last ≡ set last x (k + 1)
    → Linked xs bound (k + 1) new_last new_before
linked_more xs bound k x last before new_last new_before old here low pushed written = record {
  each_number = ap length written ∙ length-set last x (k + 1) ∙ old.each_number;
  each_place = let long = length-append before (get_or last x 0 ∷ []) in let is = ap length pushed in
      omega (arith, is, long, old.each_place);
  last_of = λ y y_low. last_of y y_low (cases_eq y x);
  links = λ i i_low. links i i_low (cases_eq i k);
}
  where
    last_of : (y : ℕ) → y < bound → (y ≡ x) ⊎ (y ≡ x → ⊥) → IsLastBefore xs (k + 1) y (get_or new_last y 0)
    last_of y y_low (inl same) =
        let is : get_or new_last y 0 ≡ k + 1 =
        ap (λ l. get_or l y 0) written ∙ ap (λ z. get_or (set last x (k + 1)) z 0) same
        ∙ get_or-set_same last x (k + 1) 0 (omega (arith, low, old.each_number)) in
        same_number xs k y (get_or new_last y 0) (here ∙ sym same) is
    last_of y y_low (inr other) =
        let is : get_or new_last y 0 ≡ get_or last y 0 =
        ap (λ l. get_or l y 0) written ∙ get_or-set_other last x y (k + 1) 0 other in
        subst (IsLastBefore xs (k + 1) y) (sym is)
        (other_number xs k y (get_or last y 0) (λ e. other (sym e ∙ here)) (old.last_of y y_low))

    links : (i : ℕ) → i < k + 1 → (i ≡ k) ⊎ (i ≡ k → ⊥) → IsLastBefore xs i (get_or xs i 0) (get_or new_before i 0)
    links i i_low (inl same) =
        let is : get_or new_before i 0 ≡ get_or last x 0 =
        ap (λ l. get_or l i 0) pushed ∙ last_entry before (get_or last x 0) 0 i (same ∙ sym old.each_place) in
        let at : get_or xs i 0 ≡ x = ap (λ j. get_or xs j 0) same ∙ here in
        subst (IsLastBefore xs i (get_or xs i 0)) (sym is)
        (subst (λ j. IsLastBefore xs j (get_or xs i 0) (get_or last x 0)) (sym same)
        (subst (λ y. IsLastBefore xs k y (get_or last x 0)) (sym at) (old.last_of x low)))
    links i i_low (inr other) =
        let under : i < k = omega (arith, i_low, other) in
        let is : get_or new_before i 0 ≡ get_or before i 0 =
        ap (λ l. get_or l i 0) pushed
        ∙ get_or_append_left before (get_or last x 0 ∷ []) 0 i (omega (arith, under, old.each_place)) in
        subst (IsLastBefore xs i (get_or xs i 0)) (sym is) (old.links i under)
