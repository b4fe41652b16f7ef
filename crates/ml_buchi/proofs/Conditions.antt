-- Parity conditions: what they mean, and their texts from the left to the right.
--
--   condition_is_parity == the law
--   condition_is, openings_and_closings == a condition is what is said of each set, with its operator and parenthesis, and
--                          then the closing parentheses
use Rattle.std.proofs.Common.{ℕ, zero, suc, ◌≡◌, ◌+◌, ◌-◌, ◌%◌, ◌<◌, ◌≤◌, ◌⊎◌, ◌↔◌, inl, inr, arith, Bool, true, false, List, [], ◌∷◌, ◌++◌, refl, sym, ap, ◌∙◌, subst, append_assoc}
use Rattle.std.specs.Prelude.{if◌then◌else◌, nat_lt}
use Rattle.std.specs.List.{flat_map, range_with_len}
use Rattle.std.proofs.lemmas.Bool.{cases_lt, cond-true, cond-false}
use Rattle.std.proofs.lemmas.Bool.Decides.{nat_tests}
use Rattle.std.proofs.lemmas.List.{append-nil, replicate_more}
use Rattle.ml_buchi.specs.WrittenText.{Condition, Fin, Inf, And, Or, ConditionIsParity, alone, condition_text, is_even, joined, lowest_is_odd, meets, operand_text}
use Rattle.ml_buchi.specs.private.Openings.{closings, opening, operator_of}

-- ---- what they mean

module _ (seen : ℕ → Bool) where
  alone_met : (n : ℕ) (b : Bool) → is_even n ≡ b → seen n ≡ true
      → (meets seen (if b then Fin n else Inf n) ≡ true) ↔ (n % 2 ≡ 1)
  alone_met n true even is_seen = (λ e. absurd (cc), λ odd. absurd (grind (arith, nat_tests)))
  alone_met n false odd is_seen = (λ e. grind (arith, nat_tests), λ e. is_seen)

  joined_met : (n : ℕ) (c : Condition) (b : Bool) → is_even n ≡ b → seen n ≡ true
      → (meets seen (if b then And (Fin n) c else Or (Inf n) c) ≡ true) ↔ (n % 2 ≡ 1)
  joined_met n c true even is_seen = (λ e. absurd (cc), λ odd. absurd (grind (arith, nat_tests)))
  joined_met n c false odd is_seen = (λ e. grind (arith, nat_tests), λ e. cc)

  joined_passed : (n : ℕ) (c : Condition) (b : Bool) → seen n ≡ false
      → meets seen (if b then And (Fin n) c else Or (Inf n) c) ≡ meets seen c
  joined_passed n c true not_seen = cc
  joined_passed n c false not_seen = cc

  -- n is the lowest one that is met again and again, of those from k on
  odd_from : (m k n : ℕ) → k ≤ n → n ≤ k + m → seen n ≡ true → ((j : ℕ) → j < n → seen j ≡ false)
      → (meets seen (lowest_is_odd k m) ≡ true) ↔ (n % 2 ≡ 1)
  odd_from zero k n above below is_seen none =
      let same : n ≡ k = omega arith in
      subst (λ i. (meets seen (alone k) ≡ true) ↔ (i % 2 ≡ 1)) (sym same)
      (alone_met k (is_even k) refl (subst (λ i. seen i ≡ true) same is_seen))
  odd_from (suc m) k n above below is_seen none = by_order (cases_lt k n) (odd_from m (k + 1) n)
    where
      rest : Condition
      rest = lowest_is_odd (k + 1) m

      by_order : (k < n) ⊎ (n ≤ k)
          → (k + 1 ≤ n → n ≤ k + 1 + m → seen n ≡ true → ((j : ℕ) → j < n → seen j ≡ false)
          → (meets seen (lowest_is_odd (k + 1) m) ≡ true) ↔ (n % 2 ≡ 1))
          → (meets seen (joined k (lowest_is_odd (k + 1) m)) ≡ true) ↔ (n % 2 ≡ 1)
      by_order (inl later) behind =
          subst (λ b. (b ≡ true) ↔ (n % 2 ≡ 1)) (sym (joined_passed k (lowest_is_odd (k + 1) m) (is_even k) (none k later)))
          (behind (omega arith) (omega arith) is_seen none)
      by_order (inr here) behind =
          let same : n ≡ k = omega arith in
          subst (λ i. (meets seen (joined k (lowest_is_odd (k + 1) m)) ≡ true) ↔ (i % 2 ≡ 1)) (sym same)
          (joined_met k (lowest_is_odd (k + 1) m) (is_even k) refl (subst (λ i. seen i ≡ true) same is_seen))

pub condition_is_parity : ConditionIsParity
condition_is_parity seen top n low is_seen none =
    odd_from seen (top - 1) 0 n (omega arith) (omega arith) is_seen none

-- ---- their texts

-- the parentheses of a condition on m sets and one more, as a part
abbrev before : ℕ → List ℕ
before zero = []
before (suc m) = 40 ∷ []

abbrev behind : ℕ → List ℕ
behind zero = []
behind (suc m) = 41 ∷ []

alone_text : (n : ℕ) (b : Bool)
    → condition_text (if b then Fin n else Inf n) ≡ operand_text (if b then Fin n else Inf n)
alone_text n true = refl
alone_text n false = refl

joined_text : (n : ℕ) (c : Condition) (b : Bool)
    → condition_text (if b then And (Fin n) c else Or (Inf n) c)
    ≡ operand_text (if b then Fin n else Inf n) ++ ((if b then 38 else 124) ∷ operand_text c)
joined_text n c true = refl
joined_text n c false = refl

joined_operand : (n : ℕ) (c : Condition) (b : Bool)
    → operand_text (if b then And (Fin n) c else Or (Inf n) c)
    ≡ 40 ∷ (condition_text (if b then And (Fin n) c else Or (Inf n) c) ++ 41 ∷ [])
joined_operand n c true =
    ap (λ rest. 40 ∷ rest) (sym (append_assoc (operand_text (Fin n)) (38 ∷ operand_text c) (41 ∷ [])))
joined_operand n c false =
    ap (λ rest. 40 ∷ rest) (sym (append_assoc (operand_text (Inf n)) (124 ∷ operand_text c) (41 ∷ [])))

part_is : (m n : ℕ)
    → operand_text (lowest_is_odd n m) ≡ before m ++ (condition_text (lowest_is_odd n m) ++ behind m)
part_is zero n = sym (alone_text n (is_even n)) ∙ sym (append-nil (condition_text (alone n)))
part_is (suc m) n = joined_operand n (lowest_is_odd (n + 1) m) (is_even n)

opens : (m n top : ℕ) → top ≡ n + suc m + 1 → (if nat_lt (n + 2) top then 40 ∷ [] else []) ≡ before m
opens zero n top is = cond-false (nat_lt (n + 2) top) (40 ∷ []) [] (grind (arith, nat_tests))
opens (suc m) n top is = cond-true (nat_lt (n + 2) top) (40 ∷ []) [] (grind (arith, nat_tests))

closes : (m : ℕ) → closings (m - 1) ++ behind m ≡ closings m
closes zero = refl
closes (suc m) =
    let less : suc m - 1 ≡ m = omega arith in
    let more : m + 1 ≡ suc m = omega arith in
    ap (λ k. closings k ++ 41 ∷ []) less ∙ replicate_more m 41 ∙ ap closings more

abbrev written : ℕ → ℕ → ℕ → List ℕ
written top m n =
    flat_map (opening top) (range_with_len n m) ++ (operand_text (alone (n + m)) ++ closings (m - 1))

condition_is : (m n top : ℕ) → top ≡ n + m + 1 → condition_text (lowest_is_odd n m) ≡ written top m n
condition_is zero n top is =
    let same : n ≡ n + 0 = omega arith in
    alone_text n (is_even n) ∙ ap (λ k. operand_text (alone k)) same
    ∙ sym (append-nil (operand_text (alone (n + 0))))
condition_is (suc m) n top is =
    let rest = lowest_is_odd (n + 1) m in
    let last = operand_text (alone (n + suc m)) in
    let later = flat_map (opening top) (range_with_len (n + 1) m) in
    let place : n + 1 + m ≡ n + suc m = omega arith in
    let less : suc m - 1 ≡ m = omega arith in
    let ih : condition_text rest ≡ later ++ (last ++ closings (m - 1)) =
    condition_is m (n + 1) top (omega arith)
    ∙ ap (λ k. later ++ (operand_text (alone k) ++ closings (m - 1))) place in
    let closed : condition_text rest ++ behind m ≡ later ++ (last ++ closings m) =
    ap (λ t. t ++ behind m) ih
    ∙ append_assoc later (last ++ closings (m - 1)) (behind m)
    ∙ ap (λ t. later ++ t) (append_assoc last (closings (m - 1)) (behind m) ∙ ap (λ t. last ++ t) (closes m)) in
    joined_text n rest (is_even n)
    ∙ ap (λ t. operand_text (alone n) ++ (operator_of n ∷ t)) (part_is m (n + 1))
    ∙ ap (λ t. operand_text (alone n) ++ (operator_of n ∷ (t ++ (condition_text rest ++ behind m))))
    (sym (opens m n top is))
    ∙ ap (λ t. operand_text (alone n) ++ (operator_of n ∷ ((if nat_lt (n + 2) top then 40 ∷ [] else []) ++ t))) closed
    ∙ sym (append_assoc (operand_text (alone n))
    (operator_of n ∷ [] ++ (if nat_lt (n + 2) top then 40 ∷ [] else [])) (later ++ (last ++ closings m)))
    ∙ sym (append_assoc (opening top n) later (last ++ closings m))
    ∙ ap (λ k. (opening top n ++ later) ++ (last ++ closings k)) (sym less)

-- a condition on all sets below `top`
pub openings_and_closings : (top count : ℕ) → 0 < top → count ≡ top - 2
    → flat_map (opening top) (range_with_len 0 (top - 1)) ++ (operand_text (alone (top - 1)) ++ closings count)
    ≡ condition_text (lowest_is_odd 0 (top - 1))
openings_and_closings top count some is =
    let place : top - 1 ≡ 0 + (top - 1) = omega arith in
    let less : count ≡ top - 1 - 1 = omega arith in
    ap (λ k. flat_map (opening top) (range_with_len 0 (top - 1)) ++ (operand_text (alone (top - 1)) ++ closings k)) less
    ∙ ap (λ k. flat_map (opening top) (range_with_len 0 (top - 1)) ++ (operand_text (alone k) ++ closings (top - 1 - 1))) place
    ∙ sym (condition_is (top - 1) 0 top (omega arith))
