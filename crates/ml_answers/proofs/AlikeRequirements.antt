-- Sets that agree on the requirements among the items.
--
--   AgreeOn xs S T     == so do S and T, on the items xs
--   requirements_alike == the same requirements are chosen by them
--   numbers_alike      == which have the same numbers
--   problem_alike      == so their problems are the same
--   none_required      == where no number of a requirement is in a set, none is chosen
--   agree_without, agree_beside == they agree without one, and without those of others that agree
use Rattle.std.proofs.Common.{◌≡◌, ℕ, suc, ◌+◌, ◌==◌, Bool, true, false, not, ◌&&◌, cond, List, [], ◌∷◌, ◌++◌, filter, map, refl, sym, ap, subst, ◌∙◌, arith}
use Rattle.ml_front.specs.Connectives.{joined}
use Rattle.ml_front.specs.declared.logic.Logic.{Logic}
use Rattle.ml_spec.specs.Joined.{requirements}
use Rattle.ml_spec.specs.Kinds.{is_requirement}
use Rattle.ml_spec.specs.Questions.{asked_by, chosen, chosen_from}
use Rattle.ml_spec.specs.declared.question.Question.{Question}
use Rattle.ml_spec.specs.declared.specification.Item.{Item}
use Rattle.ml_replies.specs.Meeting.{beside, numbers_from, numbers_in, plain, problem_of, without}
use Rattle.ml_answers.specs.Due.{is_required}

abbrev pub AgreeOn : List Item → (ℕ → Bool) → (ℕ → Bool) → Type 0
AgreeOn xs S T = (k : ℕ) → is_required xs k ≡ true → S k ≡ T k

abbrev AgreeFrom : ℕ → List Item → (ℕ → Bool) → (ℕ → Bool) → Type 0
AgreeFrom n xs S T = (j : ℕ) → is_required xs j ≡ true → S (n + j) ≡ T (n + j)

agree_first : (n : ℕ) (x : Item) (xs : List Item) (S T : ℕ → Bool)
    → AgreeFrom n (x ∷ xs) S T
    → is_requirement x.kind ≡ true
    → S n ≡ T n
agree_first n x xs S T agree required =
    let here : n + 0 ≡ n = omega arith in subst (λ k. S k ≡ T k) here (agree 0 required)

agree_later : (n : ℕ) (x : Item) (xs : List Item) (S T : ℕ → Bool) → AgreeFrom n (x ∷ xs) S T → AgreeFrom (n + 1) xs S T
agree_later n x xs S T agree j required =
    let there : n + suc j ≡ n + 1 + j = omega arith in subst (λ k. S k ≡ T k) there (agree (suc j) required)

agree_all : (xs : List Item) (S T : ℕ → Bool) → AgreeOn xs S T → AgreeFrom 0 xs S T
agree_all xs S T agree j required = let same : j ≡ 0 + j = omega arith in subst (λ k. S k ≡ T k) same (agree j required)

-- ---- chosen requirements

no_requirement : (x : Item) (b : Bool) (ys : List Item)
    → is_requirement x.kind ≡ false
    → requirements (cond b (x ∷ ys) ys) ≡ requirements ys
no_requirement x true ys other =
    ap
    (λ t. map (λ y. y.formula) (cond t (x ∷ filter (λ y. is_requirement y.kind) ys) (filter (λ y. is_requirement y.kind) ys)))
    other
no_requirement x false ys other = refl

one_more : (x : Item) (b : Bool) (ys zs : List Item)
    → requirements ys ≡ requirements zs
    → requirements (cond b (x ∷ ys) ys) ≡ requirements (cond b (x ∷ zs) zs)
one_more x true ys zs same = by (is_requirement x.kind)
  where
    by : (t : Bool)
        → map (λ y. y.formula) (cond t (x ∷ filter (λ y. is_requirement y.kind) ys) (filter (λ y. is_requirement y.kind) ys))
        ≡ map (λ y. y.formula) (cond t (x ∷ filter (λ y. is_requirement y.kind) zs) (filter (λ y. is_requirement y.kind) zs))
    by true = ap (λ fs. x.formula ∷ fs) same
    by false = same
one_more x false ys zs same = same

module _ (S T : ℕ → Bool) where
  requirements_from : (n : ℕ) (xs : List Item)
      → AgreeFrom n xs S T
      → requirements (chosen_from S n xs) ≡ requirements (chosen_from T n xs)
  requirements_from n [] agree = refl
  requirements_from n (x ∷ xs) agree =
      by (is_requirement x.kind) refl (requirements_from (n + 1) xs (agree_later n x xs S T agree))
    where
      by : (b : Bool)
          → is_requirement x.kind ≡ b
          → requirements (chosen_from S (n + 1) xs) ≡ requirements (chosen_from T (n + 1) xs)
          → requirements (chosen_from S n (x ∷ xs)) ≡ requirements (chosen_from T n (x ∷ xs))
      by true is rest =
          ap (λ b. requirements (cond b (x ∷ chosen_from S (n + 1) xs) (chosen_from S (n + 1) xs)))
          (agree_first n x xs S T agree is)
          ∙ one_more x (T n) (chosen_from S (n + 1) xs) (chosen_from T (n + 1) xs) rest
      by false is rest =
          no_requirement x (S n) (chosen_from S (n + 1) xs) is
          ∙ rest
          ∙ sym (no_requirement x (T n) (chosen_from T (n + 1) xs) is)

  pub requirements_alike : (xs : List Item) → AgreeOn xs S T → requirements (chosen S xs) ≡ requirements (chosen T xs)
  requirements_alike xs agree = requirements_from 0 xs (agree_all xs S T agree)

  both_alike : (b s t : Bool) → (b ≡ true → s ≡ t) → (s && b) ≡ (t && b)
  both_alike true s t same = ap (λ c. c && true) (same refl)
  both_alike false true true same = refl
  both_alike false true false same = refl
  both_alike false false true same = refl
  both_alike false false false same = refl

  numbers_alike_from : (n : ℕ) (xs : List Item) → AgreeFrom n xs S T → numbers_from S n xs ≡ numbers_from T n xs
  numbers_alike_from n [] agree = refl
  numbers_alike_from n (x ∷ xs) agree =
      ap (λ b. cond b (n ∷ numbers_from S (n + 1) xs) (numbers_from S (n + 1) xs))
      (both_alike (is_requirement x.kind) (S n) (T n) (agree_first n x xs S T agree))
      ∙ ap (λ ns. cond (T n && is_requirement x.kind) (n ∷ ns) ns)
      (numbers_alike_from (n + 1) xs (agree_later n x xs S T agree))

  pub numbers_alike : (xs : List Item) → AgreeOn xs S T → numbers_in S xs ≡ numbers_in T xs
  numbers_alike xs agree = numbers_alike_from 0 xs (agree_all xs S T agree)

  pub problem_alike : (l : Logic) (xs : List Item) (q : Question) → AgreeOn xs S T → problem_of l xs S q ≡ problem_of l xs T q
  problem_alike l xs q agree = ap (λ fs. plain (joined l (fs ++ asked_by xs q))) (requirements_alike xs agree)

-- ---- none of them

none_from : (S : ℕ → Bool) (n : ℕ) (xs : List Item) → numbers_from S n xs ≡ [] → requirements (chosen_from S n xs) ≡ []
none_from S n [] none = refl
none_from S n (x ∷ xs) none = by (S n) (is_requirement x.kind) refl none (none_from S (n + 1) xs)
  where
    by : (s b : Bool)
        → is_requirement x.kind ≡ b
        → cond (s && b) (n ∷ numbers_from S (n + 1) xs) (numbers_from S (n + 1) xs) ≡ []
        → (numbers_from S (n + 1) xs ≡ [] → requirements (chosen_from S (n + 1) xs) ≡ [])
        → requirements (cond s (x ∷ chosen_from S (n + 1) xs) (chosen_from S (n + 1) xs)) ≡ []
    by true true is none rest = let wrong : n ∷ numbers_from S (n + 1) xs ≡ [] = none in absurd cc
    by true false is none rest = no_requirement x true (chosen_from S (n + 1) xs) is ∙ rest none
    by false b is none rest = rest none

pub none_required : (S : ℕ → Bool) (xs : List Item) → numbers_in S xs ≡ [] → requirements (chosen S xs) ≡ []
none_required S xs none = none_from S 0 xs none

-- ---- less

pub agree_without : (xs : List Item) (S T : ℕ → Bool) (k : ℕ) → AgreeOn xs S T → AgreeOn xs (without S k) (without T k)
agree_without xs S T k agree n required = ap (λ b. b && not (n == k)) (agree n required)

pub agree_beside : (xs : List Item) (S T U V : ℕ → Bool)
    → AgreeOn xs S T
    → AgreeOn xs U V
    → AgreeOn xs (beside S U) (beside T V)
agree_beside xs S T U V agree also k required =
    ap (λ b. b && not (U k)) (agree k required) ∙ ap (λ b. T k && not b) (also k required)
