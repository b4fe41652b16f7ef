-- Flags from which others are left out, one by one.
--
--   IsLeftTo old taken n now == the flags before n are without those that are taken, and the others are as they were
--   left_begin, left_more, left_end == it stays so
use Rattle.std.proofs.Common.{◌≡◌, ℕ, zero, suc, ◌+◌, ◌<◌, ◌≤◌, ◌⊎◌, ◌&&◌, Bool, false, not, List, [], ◌∷◌, length, set, inl, inr, refl, sym, ap, subst, ◌∙◌, arith}
use Rattle.std.proofs.lemmas.List.{get_or-set_other, get_or-set_same}
use Rattle.ml_spec.specs.Questions.{is_in}

abbrev pub IsLeftTo : List Bool → List Bool → ℕ → List Bool → Type 0
IsLeftTo old taken n now =
    (length now ≡ length old)
    × ((k : ℕ) → k < n → is_in now k ≡ (is_in old k && not (is_in taken k)))
    × ((k : ℕ) → n ≤ k → is_in now k ≡ is_in old k)

pub left_begin : (old taken : List Bool) → IsLeftTo old taken 0 old
left_begin old taken = (refl, λ k low. absurd (omega arith), λ k high. refl)

pub left_more : (old taken : List Bool) (n : ℕ) (now later : List Bool) (b : Bool)
    → IsLeftTo old taken n now
    → n < length now
    → length later ≡ length now
    → later ≡ set now n b
    → b ≡ (is_in now n && not (is_in taken n))
    → IsLeftTo old taken (n + 1) later
left_more old taken n now later b is low told made is_b = (
  told ∙ is.0,
  λ k below. ap (λ bs. is_in bs k) made ∙ by k (split k below),
  λ k high.
      ap (λ bs. is_in bs k) made
      ∙ get_or-set_other now n k b false (λ e. absurd (omega (arith, e, high)))
      ∙ is.2 k (omega (arith, high)),
)
  where
    split : (k : ℕ) → k < n + 1 → (k ≡ n) ⊎ (k < n)
    split k below = search arith

    by : (k : ℕ) → (k ≡ n) ⊎ (k < n) → is_in (set now n b) k ≡ (is_in old k && not (is_in taken k))
    by k (inl e) =
        subst (λ j. is_in (set now n b) j ≡ (is_in old j && not (is_in taken j))) (sym e)
        (get_or-set_same now n b false low
        ∙ is_b
        ∙ ap (λ t. t && not (is_in taken n)) (is.2 n (omega arith)))
    by k (inr below) =
        get_or-set_other now n k b false (λ e. absurd (omega (arith, e, below))) ∙ is.1 k below

past : (bs : List Bool) (k : ℕ) → length bs ≤ k → is_in bs k ≡ false
past [] k high = refl
past (b ∷ bs) zero high = absurd (omega (arith, high))
past (b ∷ bs) (suc k) high = past bs k (omega (arith, high))

pub left_end : (old taken : List Bool) (n : ℕ) (now : List Bool)
    → IsLeftTo old taken n now
    → length old ≤ n
    → (k : ℕ)
    → is_in now k ≡ (is_in old k && not (is_in taken k))
left_end old taken n now is all k = by (split k)
  where
    split : (k : ℕ) → (k < n) ⊎ (n ≤ k)
    split k = search arith

    by : (k < n) ⊎ (n ≤ k) → is_in now k ≡ (is_in old k && not (is_in taken k))
    by (inl low) = is.1 k low
    by (inr high) =
        let none = past old k (omega (arith, high, all)) in
        is.2 k high ∙ none ∙ sym (ap (λ t. t && not (is_in taken k)) none)
