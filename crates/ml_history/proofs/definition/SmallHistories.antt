-- Small histories: how many names there can be in one, and that a step leads from one to one.
--
--   count_or, count_one     == numbers that pass one of two tests, and a test that one number passes
--   live-length             == there are at most as many names in use as items
--   ascending_length        == there are at most n ascending numbers below n
--   live-small              == a history of states below 2^30 has at most 2^30 names in use
--   step_is_small           == a step along a letter leads from such a history to such a history
use Rattle.std.proofs.Common.{ℕ, zero, suc, ◌≡◌, ◌+◌, ◌^◌, ◌<◌, ◌≤◌, ◌⊎◌, inl, inr, arith, Bool, true, false, ◌||◌, List, [], ◌∷◌, length, map, refl, sym, subst}
use Rattle.std.proofs.lemmas.Bool.{cases_Bool, or_cases}
use Rattle.std.proofs.lemmas.List.{length-map}
use Rattle.ml_lists.specs.Ascending.{IsAscending}
use Rattle.ml_lists.specs.Counting.{count}
use Rattle.ml_lists.specs.Member.{IsMember}
use Rattle.ml_lists.proofs.Counting.{count-true, count-false, count_none}
use Rattle.ml_lists.proofs.Member.{Image, All-member, member-map_from}
use Rattle.ml_lists.proofs.Ranks.{count_all}
use Rattle.ml_trace.specs.AutomatonNumbers.{HasSmallEnds}
use Rattle.ml_trace.specs.declared.letters.Transition.{Transition}
use Rattle.ml_trace.specs.Stack.{Item, ends_in}
use Rattle.ml_history.specs.History.{IsHistory, IsSmallHistory}
use Rattle.ml_history.specs.HistoryStep.{live, taken_along, is_last, stepped}
use Rattle.ml_history.proofs.definition.NamesInUse.{is_last-in}
use Rattle.ml_history.proofs.definition.OneStep.{Behind, behind, taken_from}
use Rattle.ml_history.proofs.definition.StepKeeps.{step_is_history}
use Rattle.ml_trace.proofs.Stacks.{one_end}

-- ---- how many names there can be

-- at most as many numbers pass one of two tests as pass the first and the second
pub count_or : (p q : ℕ → Bool) (n : ℕ) → count (λ y. p y || q y) n ≤ count p n + count q n
count_or p q zero = omega arith
count_or p q (suc n) = by_test (count_or p q n) (cases_Bool (p n || q n)) (cases_Bool (p n)) (cases_Bool (q n))
  where
    none : p n ≡ false → q n ≡ false → (p n || q n) ≡ true → ⊥
    none f g e = by_case (or_cases (p n) (q n) e)
      where
        by_case : (p n ≡ true) ⊎ (q n ≡ true) → ⊥
        by_case (inl t) = cc
        by_case (inr t) = cc

    by_test : count (λ y. p y || q y) n ≤ count p n + count q n
        → ((p n || q n) ≡ true) ⊎ ((p n || q n) ≡ false)
        → (p n ≡ true) ⊎ (p n ≡ false)
        → (q n ≡ true) ⊎ (q n ≡ false)
        → count (λ y. p y || q y) (suc n) ≤ count p (suc n) + count q (suc n)
    by_test old (inl e) (inl t) (inl u) = omega (
      arith,
      old,
      count-true (λ y. p y || q y) n e,
      count-true p n t,
      count-true q n u,
    )
    by_test old (inl e) (inl t) (inr g) = omega (
      arith,
      old,
      count-true (λ y. p y || q y) n e,
      count-true p n t,
      count-false q n g,
    )
    by_test old (inl e) (inr f) (inl u) = omega (
      arith,
      old,
      count-true (λ y. p y || q y) n e,
      count-false p n f,
      count-true q n u,
    )
    by_test old (inl e) (inr f) (inr g) = absurd (none f g e)
    by_test old (inr e) (inl t) (inl u) = omega (
      arith,
      old,
      count-false (λ y. p y || q y) n e,
      count-true p n t,
      count-true q n u,
    )
    by_test old (inr e) (inl t) (inr g) = omega (
      arith,
      old,
      count-false (λ y. p y || q y) n e,
      count-true p n t,
      count-false q n g,
    )
    by_test old (inr e) (inr f) (inl u) = omega (
      arith,
      old,
      count-false (λ y. p y || q y) n e,
      count-false p n f,
      count-true q n u,
    )
    by_test old (inr e) (inr f) (inr g) = omega (
      arith,
      old,
      count-false (λ y. p y || q y) n e,
      count-false p n f,
      count-false q n g,
    )

-- at most one number passes a test that no two numbers pass
pub count_one : (p : ℕ → Bool) (n : ℕ) → ((y z : ℕ) → p y ≡ true → p z ≡ true → y ≡ z) → count p n ≤ 1
count_one p zero one = omega arith
count_one p (suc n) one = by_test (count_one p n one) (cases_Bool (p n))
  where
    lower : p n ≡ true → (k : ℕ) → k < n → (p k ≡ true) ⊎ (p k ≡ false) → p k ≡ false
    lower t k low (inl u) = let same = one k n u t in absurd (omega arith)
    lower t k low (inr f) = f

    by_test : count p n ≤ 1 → (p n ≡ true) ⊎ (p n ≡ false) → count p (suc n) ≤ 1
    by_test old (inl t) = omega (arith, count_none p n (λ k low. lower t k low (cases_Bool (p k))), count-true p n t)
    by_test old (inr f) = omega (arith, old, count-false p n f)

-- at most as many numbers are last names as there are items
lasts : (h : List (Item ℕ)) (n : ℕ) → count (is_last h) n ≤ length h
lasts [] n = omega (arith, count_none (is_last []) n (λ k low. refl))
lasts (a ∷ as') n =
    let both = count_or (λ y. ends_in y a.stack) (is_last as') n in
    let first = count_one (λ y. ends_in y a.stack) n (λ y z e f. one_end y z a.stack e f) in
    omega (arith, both, first, lasts as' n)

-- there are at most as many names in use as items
pub live-length : (h : List (Item ℕ)) → IsHistory h → live h ≤ length h
live-length h history =
    let all = count_all (is_last h) (live h) (λ y low. let e = history.each_ends y low in is_last-in h y e.0 e.1 e.2) in
    omega (arith, all, lasts h (live h))

-- ascending numbers from m on below n
ascending_between : (xs : List ℕ) (m n : ℕ)
    → IsAscending xs
    → m ≤ n
    → ((x : ℕ) → IsMember x xs → m ≤ x)
    → ((x : ℕ) → IsMember x xs → x < n)
    → length xs + m ≤ n
ascending_between [] m n a le low high = omega arith
ascending_between (x ∷ xs) m n a le low high =
    let above : x < n = high x (inl refl) in
    let from : m ≤ x = low x (inl refl) in
    let rest = ascending_between xs (x + 1) n a.1 (omega arith) (λ y i. let up = a.0 y i in omega arith)
    (λ y i. high y (inr i)) in
    omega arith

-- there are at most n ascending numbers below n
pub ascending_length : (xs : List ℕ) (n : ℕ) → IsAscending xs → ((x : ℕ) → IsMember x xs → x < n) → length xs ≤ n
ascending_length xs n a high = omega (arith, ascending_between xs 0 n a (omega arith) (λ x i. omega arith) high)

-- a history of states below 2^30 has at most 2^30 names in use
pub live-small : (h : List (Item ℕ)) → IsSmallHistory h → live h ≤ 2 ^ 30
live-small h small_one =
    let few = ascending_length (map (λ (a : Item ℕ). a.state) h) (2 ^ 30) small_one.history.states_ascend
    (λ x i. from_image x (member-map_from (λ (a : Item ℕ). a.state) x h i)) in
    omega (arith, few, live-length h small_one.history, length-map h (λ (a : Item ℕ). a.state))
  where
    from_image : (x : ℕ) → Image (λ (a : Item ℕ). a.state) x h → x < 2 ^ 30
    from_image x i = subst (λ v. v < 2 ^ 30) (sym i.holds) (small_one.small i.from i.member)

-- ---- the step

-- a step along a letter leads from such a history to such a history
pub step_is_small : (h : List (Item ℕ)) (letter : List Transition)
    → IsSmallHistory h
    → HasSmallEnds letter
    → IsSmallHistory (stepped h letter)
step_is_small h letter small_one ends = record {
  history = step_is_history h letter small_one.history;
  small = λ a m. from_behind a (behind (taken_along h letter) a m);
}
  where
    from_behind : (a : Item ℕ) → Behind (taken_along h letter) a → a.state < 2 ^ 30
    from_behind a b =
        let o = taken_from h letter b.item b.member in
        let e = All-member (λ (m : Transition). (m.from < 2 ^ 30) × (m.to < 2 ^ 30)) letter ends
        (record { from = o.source.state; to = b.item.state; accepting = o.accepting }) o.transition in
        subst (λ v. v < 2 ^ 30) (sym b.state_is) e.1
