-- The requirements that are chosen from items, and what is joined of them.
--
--   chosen_more    == of one item more
--   taken_more, left_more == their formulas, where it is a requirement that is chosen, and where it isn't
--   taken_total, left_total == their total, with that of other formulas
--   whole_total    == that of all
--   asked_here     == what a question asks for by its item
--   parts_total    == the total of what is joined is that of the requirements with that of what is asked
--   asked_fits     == what a question asks for is no longer than what is joined
--   parts_in       == what is joined for a question is of the logic
use Rattle.std.proofs.Common.{◌≡◌, ℕ, suc, ◌+◌, ◌<◌, ◌≤◌, ◌⊎◌, inl, inr, Bool, true, false, ◌&&◌, cond, List, [], ◌∷◌}
use Rattle.std.proofs.Common.{◌++◌, drop, filter, get_or, length, map, take, None, Some, slice_get, refl, sym, ap, subst, ◌∙◌, arith, length-take}
use Rattle.std.proofs.lemmas.List.{append-nil, drop_more, map-append, take-append-drop, take_all, take_more}
use Rattle.std.proofs.lemmas.List.Elements.{filter-append}
use Rattle.std.proofs.lemmas.List.Sums.{sum_by-append}
use Rattle.std.proofs.lemmas.Option.{get_or_from_slice_get, slice_get_cases}
use Rattle.ml_text.specs.Limits.{most_occurrences}
use Rattle.ml_front.specs.Connectives.{occurrences, AreOf}
use Rattle.ml_front.specs.Logics.{logic_of}
use Rattle.ml_front.specs.declared.logic.Logic.{Logic}
use Rattle.ml_front.specs.declared.problem.AnyFormula.{AnyFormula}
use Rattle.ml_lists.proofs.AllOf.{all_last, all_parts}
use Rattle.ml_spec.specs.Joined.{asked, requirements}
use Rattle.ml_spec.specs.Kinds.{is_requirement}
use Rattle.ml_spec.specs.Questions.{asked_by, asked_by_item, chosen, chosen_from, parts_of, IsQuestion}
use Rattle.ml_spec.specs.Specification.{IsSpecified}
use Rattle.ml_spec.specs.declared.question.Question.{Question}
use Rattle.ml_spec.specs.declared.question.Question.TheVariants as question
use Rattle.ml_spec.specs.declared.specification.Item.{Item}
use Rattle.ml_spec.specs.private.Sizes.{total}
use Rattle.ml_spec.proofs.JoinedSizes.{asked_logic, requirements_in, AreItemsIn}

-- ---- one item more

pub chosen_more : (S : ℕ → Bool) (n : ℕ) (xs : List Item) (x : Item)
    → chosen_from S n (xs ++ x ∷ []) ≡ chosen_from S n xs ++ cond (S (n + length xs)) (x ∷ []) []
chosen_more S n [] x = let same : n ≡ n + 0 = omega arith in ap (λ k. cond (S k) (x ∷ []) []) same
chosen_more S n (y ∷ ys) x =
    by (S n) (chosen_from S (n + 1) (ys ++ x ∷ [])) (chosen_from S (n + 1) ys)
    (chosen_more S (n + 1) ys x ∙ ap (λ k. chosen_from S (n + 1) ys ++ cond (S k) (x ∷ []) []) same)
  where
    same : n + 1 + length ys ≡ n + suc (length ys)
    same = omega arith

    by : (b : Bool) (whole rest : List Item)
        → whole ≡ rest ++ cond (S (n + suc (length ys))) (x ∷ []) []
        → cond b (y ∷ whole) whole ≡ cond b (y ∷ rest) rest ++ cond (S (n + suc (length ys))) (x ∷ []) []
    by true whole rest is = ap (λ zs. y ∷ zs) is
    by false whole rest is = is

requirements_append : (xs ys : List Item) → requirements (xs ++ ys) ≡ requirements xs ++ requirements ys
requirements_append xs ys =
    ap (map (λ x. x.formula)) (filter-append (λ x. is_requirement x.kind) xs ys)
    ∙ map-append (λ x. x.formula) (filter (λ x. is_requirement x.kind) xs) (filter (λ x. is_requirement x.kind) ys)

module _ (S : ℕ → Bool) (xs : List Item) (i : ℕ) (x : Item) (within : i < length xs) (is : x ≡ get_or xs i x) where
  front : take (i + 1) xs ≡ take i xs ++ x ∷ []
  front = take_more xs i x within ∙ ap (λ y. take i xs ++ y ∷ []) (sym is)

  number : 0 + length (take i xs) ≡ i
  number = omega (arith, length-take i xs)

  next : requirements (chosen S (take (i + 1) xs)) ≡ requirements (chosen S (take i xs)) ++ requirements (cond (S i) (x ∷ []) [])
  next =
      ap (λ ys. requirements (chosen S ys)) front
      ∙ ap requirements (chosen_more S 0 (take i xs) x)
      ∙ requirements_append (chosen S (take i xs)) (cond (S (0 + length (take i xs))) (x ∷ []) [])
      ∙ ap (λ k. requirements (chosen S (take i xs)) ++ requirements (cond (S k) (x ∷ []) [])) number

  only : (b : Bool) → is_requirement x.kind ≡ true → b ≡ true → requirements (cond b (x ∷ []) []) ≡ x.formula ∷ []
  only true required e = ap (λ c. map (λ y. y.formula) (cond c (x ∷ []) [])) required
  only false required e = cc

  none : (b : Bool) → (b && is_requirement x.kind) ≡ false → requirements (cond b (x ∷ []) []) ≡ []
  none true other = ap (λ c. map (λ y. y.formula) (cond c (x ∷ []) [])) other
  none false other = refl

  pub taken_more : S i ≡ true
      → is_requirement x.kind ≡ true
      → requirements (chosen S (take (i + 1) xs)) ≡ requirements (chosen S (take i xs)) ++ x.formula ∷ []
  taken_more chosen_here required = next ∙ ap (λ fs. requirements (chosen S (take i xs)) ++ fs) (only (S i) required chosen_here)

  pub left_more : (S i && is_requirement x.kind) ≡ false
      → requirements (chosen S (take (i + 1) xs)) ≡ requirements (chosen S (take i xs))
  left_more left =
      next
      ∙ ap (λ fs. requirements (chosen S (take i xs)) ++ fs) (none (S i) left)
      ∙ append-nil (requirements (chosen S (take i xs)))

  -- the same of their total, beside another one
  more_total : (n : ℕ) (fs : List AnyFormula)
      → requirements (chosen S (take (i + 1) xs)) ≡ requirements (chosen S (take i xs)) ++ fs
      → n + total (requirements (chosen S (take (i + 1) xs))) ≡ n + total (requirements (chosen S (take i xs))) + total fs
  more_total n fs are =
      omega (arith, ap total are, sum_by-append (λ f. 1 + occurrences f) (requirements (chosen S (take i xs))) fs)

  pub taken_total : (n : ℕ)
      → S i ≡ true
      → is_requirement x.kind ≡ true
      → n + total (requirements (chosen S (take (i + 1) xs)))
      ≡ n + total (requirements (chosen S (take i xs))) + (occurrences x.formula + 1)
  taken_total n chosen_here required = omega (arith, more_total n (x.formula ∷ []) (taken_more chosen_here required))

  pub left_total : (n : ℕ)
      → (S i && is_requirement x.kind) ≡ false
      → n + total (requirements (chosen S (take (i + 1) xs))) ≡ n + total (requirements (chosen S (take i xs)))
  left_total n left = ap (λ fs. n + total fs) (left_more left)

-- ---- all of them

pub whole_total : (S : ℕ → Bool) (xs : List Item) (i : ℕ)
    → length xs ≤ i
    → total (requirements (chosen S (take i xs))) ≡ total (requirements (chosen S xs))
whole_total S xs i ends = ap (λ ys. total (requirements (chosen S ys))) (take_all i xs ends)

-- what a question asks for, where this is its item
pub asked_here : (xs : List Item) (n : ℕ) (y x : Item)
    → slice_get xs n ≡ Some x
    → y ≡ get_or xs n y
    → asked_by xs (question.Asks n) ≡ asked y ∷ []
asked_here xs n y x is here =
    ap asked_by_item is ∙ ap (λ z. asked z ∷ []) (sym (here ∙ get_or_from_slice_get xs n x y is))

pub parts_total : (S : ℕ → Bool) (xs : List Item) (q : Question)
    → total (parts_of S xs q) ≡ total (asked_by xs q) + total (requirements (chosen S xs))
parts_total S xs q =
    omega (arith, sum_by-append (λ f. 1 + occurrences f) (requirements (chosen S xs)) (asked_by xs q))

pub asked_fits : (S : ℕ → Bool) (xs : List Item) (n : ℕ) (y x : Item)
    → slice_get xs n ≡ Some x
    → y ≡ get_or xs n y
    → total (parts_of S xs (question.Asks n)) ≤ most_occurrences + 1
    → occurrences (asked y) ≤ most_occurrences
asked_fits S xs n y x is here fits =
    omega (arith, fits, parts_total S xs (question.Asks n), ap total (asked_here xs n y x is here))

-- ---- of the logic

chosen_from_in : (l : Logic) (S : ℕ → Bool) (n : ℕ) (xs : List Item) → AreItemsIn l xs → AreItemsIn l (chosen_from S n xs)
chosen_from_in l S n [] are = tt
chosen_from_in l S n (x ∷ xs) are = by (S n) (chosen_from S (n + 1) xs) (chosen_from_in l S (n + 1) xs are.1)
  where
    by : (b : Bool) (rest : List Item) → AreItemsIn l rest → AreItemsIn l (cond b (x ∷ rest) rest)
    by true rest others = (are.0, others)
    by false rest others = others

module _ (l : Logic) (S : ℕ → Bool) (xs : List Item) (specified : IsSpecified l xs) where
  chosen_of : AreOf l (requirements (chosen S xs))
  chosen_of = requirements_in l (chosen S xs) (chosen_from_in l S 0 xs specified.of_logic)

  -- the item that a question asks for
  module _ (n : ℕ) (x : Item) (is : slice_get xs n ≡ Some x) where
    at_number : (n < length xs) × (x ≡ get_or xs n x)
    at_number = by (slice_get_cases xs n).1
      where
        by : ((y : Item) × (n < length xs) × (slice_get xs n ≡ Some y) × (get_or xs n y ≡ y)) ⊎ ((length xs ≤ n) × (slice_get xs n ≡ None))
            → (n < length xs) × (x ≡ get_or xs n x)
        by (inl (y, within, there, here)) = (within, sym (get_or_from_slice_get xs n x x is))
        by (inr (past, there)) = let e : None ≡ Some x = sym there ∙ is in cc

    whole : xs ≡ take n xs ++ x ∷ drop (n + 1) xs
    whole =
        sym (take-append-drop n xs)
        ∙ ap (λ ys. take n xs ++ ys) (drop_more xs n x at_number.0)
        ∙ ap (λ y. take n xs ++ y ∷ drop (n + 1) xs) (sym at_number.1)

    of_logic : logic_of x.formula ≡ l
    of_logic = (all_parts (λ (y : Item). logic_of y.formula ≡ l) (take n xs) (x ∷ drop (n + 1) xs) (subst (AreItemsIn l) whole specified.of_logic)).1.0

    asks_of : logic_of (asked x) ≡ l
    asks_of = asked_logic x.kind x.formula ∙ of_logic

  pub parts_in : (q : Question) → IsQuestion xs q → AreOf l (parts_of S xs q)
  parts_in question.Consistent is = subst (AreOf l) (sym (append-nil (requirements (chosen S xs)))) chosen_of
  parts_in question.Rest is = subst (AreOf l) (sym (append-nil (requirements (chosen S xs)))) chosen_of
  parts_in (question.Asks n) (x, is, asks) =
      subst (λ fs. AreOf l (requirements (chosen S xs) ++ fs)) (sym (ap asked_by_item is))
      (all_last (λ (f : AnyFormula). logic_of f ≡ l) (requirements (chosen S xs)) (asked x) chosen_of (asks_of n x is))
