-- Choices, as lists of pairs that ascend.
--
--   side_step       == the side at a node is that of the first pair, or else of a later one
--   with_side_split == the pair of one node more stands behind all that have no greater node
--   nodes_apart     == the nodes of a choice ascend, place by place
--   no_greater      == where the node right before a place is no greater than another, none before it is
--   side_found, side_missing == what a binary search for a node finds
--   with_is_choice  == a choice with a side more is a choice
use Rattle.std.proofs.Common.{ℕ, zero, suc, ◌≡◌, ◌-◌, ◌<◌, ◌≤◌, ◌==◌, true, false, cond, nat_lt, List, [], ◌∷◌, ◌++◌, length, get_or, map}
use Rattle.std.proofs.Common.{take, drop, Some, None, refl, sym, ap, ◌∙◌, subst, arith, ◌⊎◌, inl, inr, ⊎_elim, Ok, Err}
use Rattle.std.proofs.lemmas.Bool.{cases_Bool, cases_lt, cond-true, cond-false}
use Rattle.std.proofs.lemmas.Bool.Decides.{nat_tests}
use Rattle.std.specs.List.Sorted.{IsBinarySearchResult, IsNonDecreasingBy}
use Rattle.std.specs.Ordering.{nat_cmp, ordering_index}
use Rattle.std.proofs.lemmas.Cmp.{ranked}
use Rattle.std.proofs.lemmas.List.{length-map}
use Rattle.std.proofs.lemmas.List.Sorted.{IsNonDecreasingBy-from_default}
use Rattle.ml_lists.specs.Ascending.{IsAscending, insert_once}
use Rattle.ml_lists.proofs.Ascending.{insert_once-is, ascending-apart}
use Rattle.ml_lists.proofs.Entries.{cond-none}
use Rattle.ml_sequent.specs.declared.choice.Side.{Side}
use Rattle.ml_sequent.specs.declared.choice.Side.TheVariants.{Left}
use Rattle.ml_sequent.specs.Choice.{side_of, IsChoice, with_side}

-- the pair of one node more stands behind all that have no greater node
pub with_side_split : (c : List (ℕ × Side)) (n : ℕ) (s : Side) (i : ℕ) (d : ℕ × Side) → i ≤ length c
    → ((k : ℕ) → k < i → (get_or c k d).0 ≤ n) → (i < length c → n < (get_or c i d).0)
    → with_side c n s ≡ take i c ++ (n, s) ∷ drop i c
with_side_split [] n s zero d low before behind = refl
with_side_split [] n s (suc i) d low before behind = absurd (omega arith)
with_side_split (p ∷ c) n s zero d low before behind =
    let less : n < p.0 = behind (omega arith) in
    let test : nat_lt n p.0 ≡ true = grind (arith, nat_tests) in
    cond-true (nat_lt n p.0) ((n, s) ∷ p ∷ c) (p ∷ with_side c n s) test
with_side_split (p ∷ c) n s (suc i) d low before behind =
    let more : p.0 ≤ n = before 0 (omega arith) in
    let test : nat_lt n p.0 ≡ false = grind (arith, nat_tests) in
    cond-false (nat_lt n p.0) ((n, s) ∷ p ∷ c) (p ∷ with_side c n s) test
    ∙ ap (λ xs. p ∷ xs) (with_side_split c n s i d (omega arith) (λ k k_low. before (suc k) (omega arith))
    (λ i_low. behind (omega arith)))

-- its nodes are those of the choice with one more
nodes_with : (c : List (ℕ × Side)) (n : ℕ) (s : Side) → side_of c n ≡ None
    → map (λ p. p.0) (with_side c n s) ≡ insert_once n (map (λ p. p.0) c)
nodes_with [] n s none = refl
nodes_with (p ∷ c) n s none =
    by_test (cases_Bool (nat_lt n p.0)) (λ (later : side_of c n ≡ None). nodes_with c n s later)
  where
    here : ((p.0 == n) ≡ false) × (side_of c n ≡ None)
    here = cond-none (p.0 == n) p.1 (side_of c n) none

    by_test : ((nat_lt n p.0) ≡ true) ⊎ ((nat_lt n p.0) ≡ false)
        → (side_of c n ≡ None → map (λ q. q.0) (with_side c n s) ≡ insert_once n (map (λ q. q.0) c))
        → map (λ q. q.0) (with_side (p ∷ c) n s) ≡ insert_once n (map (λ q. q.0) (p ∷ c))
    by_test (inl less) rest =
        ap (map (λ (q : ℕ × Side). q.0)) (cond-true (nat_lt n p.0) ((n, s) ∷ p ∷ c) (p ∷ with_side c n s) less)
        ∙ sym
        (cond-true (nat_lt n p.0) (n ∷ (p.0 ∷ map (λ (q : ℕ × Side). q.0) c))
        (cond (n == p.0) (p.0 ∷ map (λ (q : ℕ × Side). q.0) c) (p.0 ∷ insert_once n (map (λ (q : ℕ × Side). q.0) c)))
        less)
    by_test (inr more) rest =
        let unequal = here.0 in
        let other : (n == p.0) ≡ false = grind (arith, nat_tests) in
        ap (map (λ (q : ℕ × Side). q.0)) (cond-false (nat_lt n p.0) ((n, s) ∷ p ∷ c) (p ∷ with_side c n s) more)
        ∙ ap (λ xs. p.0 ∷ xs) (rest here.1)
        ∙ sym
        (cond-false (nat_lt n p.0) (n ∷ (p.0 ∷ map (λ (q : ℕ × Side). q.0) c))
        (cond (n == p.0) (p.0 ∷ map (λ (q : ℕ × Side). q.0) c) (p.0 ∷ insert_once n (map (λ (q : ℕ × Side). q.0) c)))
        more
        ∙ cond-false (n == p.0) (p.0 ∷ map (λ (q : ℕ × Side). q.0) c)
        (p.0 ∷ insert_once n (map (λ (q : ℕ × Side). q.0) c)) other)

-- a choice with a side more is a choice
pub with_is_choice : (c : List (ℕ × Side)) (n : ℕ) (s : Side)
    → IsChoice c
    → side_of c n ≡ None
    → IsChoice (with_side c n s)
with_is_choice c n s ok none =
    subst IsAscending (sym (nodes_with c n s none)) (insert_once-is n (map (λ p. p.0) c) ok)

-- ---- a choice that is searched

-- the nodes of a choice, place by place
node_at_place : (c : List (ℕ × Side)) (k : ℕ) (d : ℕ × Side)
    → k < length c
    → get_or (map (λ (p : ℕ × Side). p.0) c) k 0 ≡ (get_or c k d).0
node_at_place [] k d low = absurd (omega arith)
node_at_place (p ∷ c) zero d low = refl
node_at_place (p ∷ c) (suc k) d low = node_at_place c k d (omega arith)

-- the nodes of a choice ascend, place by place
pub nodes_apart : (c : List (ℕ × Side)) (i j : ℕ) (d : ℕ × Side)
    → IsChoice c
    → i < j
    → j < length c
    → (get_or c i d).0 < (get_or c j d).0
nodes_apart c i j d is less low =
    let long : length (map (λ (p : ℕ × Side). p.0) c) ≡ length c = length-map c (λ (p : ℕ × Side). p.0) in
    let apart = ascending-apart (map (λ (p : ℕ × Side). p.0) c) i j 0 is less (omega arith) in
    let first = node_at_place c i d (omega arith) in
    let second = node_at_place c j d low in
    omega arith

-- where the node right before a place is no greater than another, none before it is
pub no_greater : (c : List (ℕ × Side)) (n i : ℕ) (d : ℕ × Side)
    → IsChoice c
    → i ≤ length c
    → (0 < i → (get_or c (i - 1) d).0 ≤ n)
    → (k : ℕ)
    → k < i
    → (get_or c k d).0 ≤ n
no_greater c n i d is low last k less = ⊎_elim
    (λ (earlier : k < i - 1).
    let apart = nodes_apart c k (i - 1) d is earlier (omega arith) in
    let end = last (omega arith) in
    omega arith)
    (λ (there : i - 1 ≤ k).
    let same : k ≡ i - 1 = omega arith in
    subst (λ j. (get_or c j d).0 ≤ n) (sym same) (last (omega arith)))
    (cases_lt k (i - 1))

-- the side at the place of a node, where no earlier place has it
side_first : (c : List (ℕ × Side)) (n i : ℕ) (d : ℕ × Side) → i < length c → (get_or c i d).0 ≡ n
    → ((k : ℕ) → k < i → (get_or c k d).0 ≡ n → ⊥)
    → Some (get_or c i d).1 ≡ side_of c n
side_first [] n i d low is before = absurd (omega arith)
side_first (p ∷ c) n zero d low is before =
    let test : (p.0 == n) ≡ true = grind (arith, nat_tests) in
    sym (cond-true (p.0 == n) (Some p.1) (side_of c n) test)
side_first (p ∷ c) n (suc i) d low is before =
    let other = before 0 (omega arith) in
    let test : (p.0 == n) ≡ false = grind (arith, nat_tests) in
    side_first c n i d (omega arith) is (λ k less. before (suc k) (omega arith))
    ∙ sym (cond-false (p.0 == n) (Some p.1) (side_of c n) test)

-- where no place has the node, there is none
side_none : (c : List (ℕ × Side)) (n : ℕ) (d : ℕ × Side)
    → ((k : ℕ) → k < length c → (get_or c k d).0 ≡ n → ⊥)
    → None ≡ side_of c n
side_none [] n d before = refl
side_none (p ∷ c) n d before =
    let other = before 0 (omega arith) in
    let test : (p.0 == n) ≡ false = grind (arith, nat_tests) in
    side_none c n d (λ k low. before (suc k) (omega arith))
    ∙ sym (cond-false (p.0 == n) (Some p.1) (side_of c n) test)

-- what a binary search for a node finds
module _ (c : List (ℕ × Side)) (is : IsChoice c) (n : ℕ) where
  rises : IsNonDecreasingBy (λ p. ordering_index (nat_cmp p.0 n)) c
  rises = IsNonDecreasingBy-from_default (λ p. ordering_index (nat_cmp p.0 n)) c (0, Left) (λ i j le low.
      let order : (get_or c i (0, Left)).0 ≤ (get_or c j (0, Left)).0 = ⊎_elim
      (λ (less : i < j). let apart = nodes_apart c i j (0, Left) is less low in omega arith)
      (λ (more : j ≤ i). let same : i ≡ j = omega arith in let e = ap (λ k. (get_or c k (0, Left)).0) same in
      omega arith)
      (cases_lt i j)
      in
      grind (arith, nat_tests))

  pub side_found : (i : ℕ) (d : ℕ × Side)
      → IsBinarySearchResult (λ p. nat_cmp p.0 n) c (Ok i)
      → i < length c
      → Some (get_or c i d).1 ≡ side_of c n
  side_found i d found low =
      let here = ranked (get_or c i d).0 n _ (sym (found d)) in
      side_first c n i d low here (λ k less e. let apart = nodes_apart c k i d is less low in absurd (omega arith))

  pub side_missing : (i : ℕ) → IsBinarySearchResult (λ p. nat_cmp p.0 n) c (Err i) → None ≡ side_of c n
  side_missing i parted = side_none c n (0, Left) (λ k low e. ⊎_elim
      (λ (less : k < i).
      let lower = ranked (get_or c k (0, Left)).0 n _ (sym ((parted rises).0 k (0, Left) (omega arith) less)) in
      absurd (omega arith))
      (λ (more : i ≤ k). let higher = ranked (get_or c k (0, Left)).0 n _ (sym ((parted rises).1 k (0, Left) more low))
      in absurd (omega arith))
      (cases_lt k i))
