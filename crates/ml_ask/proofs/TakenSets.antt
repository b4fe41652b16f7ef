-- Sets of requirements, as they are made.
--
--   one_out        == a number set to false is in a list's set no more, and others are as before
--   out_among      == so the set has no new member
--   one_beside, same_beside, all_beside == without the members of another set, one number after the other
use Rattle.std.proofs.Common.{◌≡◌, ℕ, ◌+◌, ◌<◌, ◌≤◌, ◌⊎◌, inl, inr, Bool, true, false, not, ◌&&◌, List, length, set, refl, sym, ap, subst, ◌∙◌, arith, length-set}
use Rattle.std.proofs.lemmas.Bool.{cases_eq, cases_lt}
use Rattle.std.proofs.lemmas.List.{get_or-set_other, get_or-set_same}
use Rattle.ml_spec.specs.Questions.{is_in}
use Rattle.ml_replies.specs.Meeting.{beside}
use Rattle.ml_replies.proofs.Taken.{left_same, past_end, without_fewer}

pub out_among : (bs : List Bool) (k : ℕ) → k < length bs → (j : ℕ) → is_in (set bs k false) j ≡ true → is_in bs j ≡ true
out_among bs k within j taken = without_fewer (is_in bs) k j (subst (λ T. T j ≡ true) (left_same bs k within) taken)

-- the members of `left` that aren't in `taken`, as far as the number i; further on all of them
pub record IsBesideTo (left taken rest : List Bool) (i : ℕ) : Type 0 where
  pub are_told : length rest ≡ length left
  pub before : (k : ℕ) → k < i → is_in rest k ≡ beside (is_in left) (is_in taken) k
  pub after : (k : ℕ) → i ≤ k → is_in rest k ≡ is_in left k

module _ (left taken : List Bool) where
  pub none_beside : IsBesideTo left taken left 0
  none_beside = record { are_told = refl; before = λ k below. absurd (omega (arith, below)); after = λ k past. refl }

  and_false : (b : Bool) → (b && false) ≡ false
  and_false true = refl
  and_false false = refl

  and_true : (b : Bool) → (b && true) ≡ b
  and_true true = refl
  and_true false = refl

  pub one_beside : (rest : List Bool) (i : ℕ)
      → i < length left
      → IsBesideTo left taken rest i
      → is_in taken i ≡ true
      → IsBesideTo left taken (set rest i false) (i + 1)
  one_beside rest i within so out = record {
    are_told = length-set rest i false ∙ so.are_told;
    before = λ k below. by k below (cases_eq k i);
    after = λ k past.
        get_or-set_other rest i k false false (λ e. absurd (omega (arith, past, e))) ∙ so.after k (omega (arith, past));
  }
    where
      low : i < length rest
      low = omega (arith, within, so.are_told)

      by : (k : ℕ) → k < i + 1 → (k ≡ i) ⊎ (¬ (k ≡ i)) → is_in (set rest i false) k ≡ beside (is_in left) (is_in taken) k
      by k below (inl here) =
          subst (λ j. is_in (set rest i false) j ≡ beside (is_in left) (is_in taken) j) (sym here)
          (get_or-set_same rest i false false low ∙ sym (ap (λ b. is_in left i && not b) out ∙ and_false (is_in left i)))
      by k below (inr other) =
          get_or-set_other rest i k false false other ∙ so.before k (omega (arith, below, other))

  pub same_beside : (rest : List Bool) (i : ℕ)
      → IsBesideTo left taken rest i
      → is_in taken i ≡ false
      → IsBesideTo left taken rest (i + 1)
  same_beside rest i so stays = record {
    are_told = so.are_told;
    before = λ k below. by k below (cases_eq k i);
    after = λ k past. so.after k (omega (arith, past));
  }
    where
      by : (k : ℕ) → k < i + 1 → (k ≡ i) ⊎ (¬ (k ≡ i)) → is_in rest k ≡ beside (is_in left) (is_in taken) k
      by k below (inl here) =
          subst (λ j. is_in rest j ≡ beside (is_in left) (is_in taken) j) (sym here)
          (so.after i (omega arith) ∙ sym (ap (λ b. is_in left i && not b) stays ∙ and_true (is_in left i)))
      by k below (inr other) = so.before k (omega (arith, below, other))

  pub all_beside : (rest : List Bool) (i : ℕ)
      → length left ≤ i
      → IsBesideTo left taken rest i
      → is_in rest ≡ beside (is_in left) (is_in taken)
  all_beside rest i all so = λ j k. (at k) j
    where
      none : (k : ℕ) (b : Bool) → is_in left k ≡ b → length left ≤ k → is_in left k ≡ false
      none k false e past = e
      none k true e past = absurd (omega (arith, past_end left k e, past))

      by : (k : ℕ) → (k < i) ⊎ (i ≤ k) → is_in rest k ≡ beside (is_in left) (is_in taken) k
      by k (inl below) = so.before k below
      by k (inr past) =
          let out = none k (is_in left k) refl (omega (arith, all, past)) in
          so.after k past ∙ out ∙ sym (ap (λ b. b && not (is_in taken k)) out)

      at : (k : ℕ) → is_in rest k ≡ beside (is_in left) (is_in taken) k
      at k = by k (cases_lt k i)
