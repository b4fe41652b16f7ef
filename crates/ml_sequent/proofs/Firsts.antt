-- The first node of an ascending list with a property.
--
--   none_of    == where no place has it, no member has it
--   first_of   == where no earlier place has it, no lesser member has it
--   found_none, found_first == the same of a test that `find` made
--   all_fail   == where no member passes, `find` finds none
--   least_open, none_open == the same of open or-nodes
use Rattle.std.proofs.Common.{ℕ, ◌≡◌, ◌<◌, ◌≤◌, ◌⊎◌, inl, inr, ⊎_elim, Bool, true, false, List, [], ◌∷◌, length, get_or, find, Some, None, refl, sym, ap, ◌∙◌, subst, arith}
use Rattle.std.proofs.lemmas.Bool.{cases_Bool, cases_eq, cases_lt, cond-true, cond-false}
use Rattle.ml_lists.specs.Ascending.{IsAscending}
use Rattle.ml_lists.specs.Member.{IsMember}
use Rattle.ml_lists.proofs.Ascending.{ascending-apart}
use Rattle.ml_lists.proofs.Member.{member-place, place-member}
use Rattle.ml_graph.specs.Graph.{Graph}
use Rattle.ml_sequent.specs.Spread.{SpreadList, IsSpread, IsOpenNode, IsOpenOr, IsLeastOpenOr}

-- where no place has it, no member has it
pub none_of : (xs : List ℕ) (P : ℕ → Type 0) (n : ℕ)
    → length xs ≤ n
    → ((k : ℕ) → k < n → P (get_or xs k 0))
    → (m : ℕ)
    → IsMember m xs
    → P m
none_of xs P n all at m h =
    let place = member-place m xs h in subst P (place.holds 0) (at place.place (omega (arith, place.below)))

-- where no earlier place lacks it, no lesser member lacks it
pub first_of : (xs : List ℕ)
    → IsAscending xs
    → (P : ℕ → Type 0) (i : ℕ)
    → i < length xs
    → ((k : ℕ) → k < i → P (get_or xs k 0))
    → (m : ℕ) → IsMember m xs → m < get_or xs i 0 → P m
first_of xs up P i low at m h less =
    let place = member-place m xs h in
    ⊎_elim
    (λ (earlier : place.place < i). subst P (place.holds 0) (at place.place earlier))
    (λ (later : i ≤ place.place). ⊎_elim
    (λ (same : place.place ≡ i). let e : get_or xs i 0 ≡ m = ap (λ k. get_or xs k 0) (sym same) ∙ place.holds 0 in absurd (omega arith))
    (λ (other : place.place ≡ i → ⊥). let above = ascending-apart xs i place.place 0 up (omega arith) place.below in absurd (omega (arith, above, place.holds 0)))
    (cases_eq place.place i))
    (cases_lt place.place i)

-- where a test finds none, no member passes
pub found_none : (test : ℕ → Bool) (xs : List ℕ) → find test xs ≡ None → (m : ℕ) → IsMember m xs → test m ≡ false
found_none test [] e m h = absurd h
found_none test (x ∷ xs) e m h = by_test (cases_Bool (test x)) (found_none test xs) h
  where
    by_test : (test x ≡ true) ⊎ (test x ≡ false)
        → (find test xs ≡ None → (k : ℕ) → IsMember k xs → test k ≡ false)
        → IsMember m (x ∷ xs)
        → test m ≡ false
    by_test (inl passes) rest h2 = let here = cond-true (test x) (Some x) (find test xs) passes in cc
    by_test (inr fails) rest (inl same) = ap test same ∙ fails
    by_test (inr fails) rest (inr later) = rest (sym (cond-false (test x) (Some x) (find test xs) fails) ∙ e) m later

-- where no member passes, it finds none
pub all_fail : (test : ℕ → Bool) (xs : List ℕ) → ((m : ℕ) → IsMember m xs → test m ≡ false) → find test xs ≡ None
all_fail test [] fails = refl
all_fail test (x ∷ xs) fails =
    cond-false (test x) (Some x) (find test xs) (fails x (inl refl)) ∙ all_fail test xs (λ m h. fails m (inr h))

-- what a test finds
pub record FoundFirst (test : ℕ → Bool) (xs : List ℕ) (n : ℕ) : Type 0 where
  pub member : IsMember n xs
  pub passes : test n ≡ true
  pub first : (m : ℕ) → IsMember m xs → m < n → test m ≡ false

pub found_first : (test : ℕ → Bool) (xs : List ℕ)
    → IsAscending xs
    → (n : ℕ)
    → find test xs ≡ Some n
    → FoundFirst test xs n
found_first test [] up n e = cc
found_first test (x ∷ xs) up n e = by_test (cases_Bool (test x)) (found_first test xs up.1 n)
  where
    by_test : (test x ≡ true) ⊎ (test x ≡ false)
        → (find test xs ≡ Some n → FoundFirst test xs n)
        → FoundFirst test (x ∷ xs) n
    by_test (inl passes) rest =
        let here = cond-true (test x) (Some x) (find test xs) passes in
        let same : n ≡ x = cc in
        record {
          member = inl same;
          passes = ap test same ∙ passes;
          first = λ m h less. ⊎_elim (λ (first : m ≡ x). absurd (omega arith)) (λ (later : IsMember m xs). let above = up.0 m later in absurd (omega arith)) h;
        }
    by_test (inr fails) rest = of_rest (rest (sym (cond-false (test x) (Some x) (find test xs) fails) ∙ e))
      where
        of_rest : FoundFirst test xs n → FoundFirst test (x ∷ xs) n
        of_rest r = record {
          member = inr r.member;
          passes = r.passes;
          first = λ m h less. ⊎_elim (λ (first : m ≡ x). ap test first ∙ fails) (λ (later : IsMember m xs). r.first m later less) h;
        }

-- ---- open or-nodes

-- where no earlier place has an open or-node, the one at this place is the least
pub least_open : (g : Graph) (sp : SpreadList)
    → IsSpread g sp
    → (i : ℕ)
    → i < length sp.nodes
    → IsOpenNode g sp.choice (get_or sp.nodes i 0)
    → ((k : ℕ) → k < i → IsOpenNode g sp.choice (get_or sp.nodes k 0) → ⊥) → IsLeastOpenOr g sp (get_or sp.nodes i 0)
least_open g sp is i low here before = record {
  is_open = record { member = place-member sp.nodes i 0 low; is_open = here };
  least = λ m less o. first_of sp.nodes is.ascends (λ k. IsOpenNode g sp.choice k → ⊥) i low before m o.member less o.is_open;
}

-- where no place has one, there is none
pub none_open : (g : Graph) (sp : SpreadList) (i : ℕ) → length sp.nodes ≤ i
    → ((k : ℕ) → k < i → IsOpenNode g sp.choice (get_or sp.nodes k 0) → ⊥) → (n : ℕ) → IsOpenOr g sp n → ⊥
none_open g sp i all before n o = none_of sp.nodes (λ k. IsOpenNode g sp.choice k → ⊥) i all before n o.member o.is_open
