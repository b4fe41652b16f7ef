-- Propositions that are decided: one under another, and all or some of finitely many.
--
--   decided_and     == two together, of which the second one is decided where the first one holds
--   decided_if      == that one follows from another, where it is decided under the other
--   decided_not     == that something doesn't hold
--   decided_at_most, decided_truth == the order of numbers, and the equality of truth values
--   decided_below   == that all numbers below a bound have a property
--   some_below      == that some number below a bound has it
--   decided_members == that all members of a list have it
--   Having P xs     == some member of xs has the property P
--   some_member     == that some member has it
--   decided_member  == that something is a member, where equality is decided
--   some_truth      == that one of the two truth values has it
--   Sieved P n      == the numbers below n with the property P, as an ascending list
--   sieve           == there is such a list
--   FirstWith       == the first number below n that is bad, where all before it are good
--   first_bad       == all numbers below a bound are good, or there is a first bad one
use Rattle.std.proofs.Common.{◌≡◌, ℕ, zero, suc, ◌<◌, ◌≤◌, ◌⊎◌, Bool, true, false, List, [], ◌∷◌, inl, inr, ⊎_elim, refl, sym, subst, arith}
use Rattle.std.proofs.lemmas.Bool.{cases_eq, cases_lt}
use Rattle.ml_lists.specs.Ascending.{IsAscending, ascending}
use Rattle.ml_lists.specs.Member.{IsMember}
use Rattle.ml_lists.specs.Found.{Found}
use Rattle.ml_lists.proofs.Ascending.{ascending-is, ascending-member, member-ascending}
use Rattle.ml_lists.proofs.Decided.{Decided, decided_same, decided_both, decided_either, decided_less}
use Rattle.ml_lists.proofs.Search.{all_below_suc}

pub decided_and : {P Q : Type 0} → Decided P → (P → Decided Q) → Decided (P × Q)
decided_and (inl p) q = decided_both (inl p) (q p)
decided_and (inr none) q = inr (λ both. none both.0)

pub decided_if : {P Q : Type 0} → Decided P → (P → Decided Q) → Decided (P → Q)
decided_if (inl p) q = decided_same (λ y x. y) (λ f. f p) (q p)
decided_if (inr none) q = inl (λ p. absurd (none p))

pub decided_not : {P : Type 0} → Decided P → Decided (¬ P)
decided_not (inl p) = inr (λ none. none p)
decided_not (inr none) = inl none

pub decided_at_most : (m n : ℕ) → Decided (m ≤ n)
decided_at_most m n =
    decided_same (λ none. ⊎_elim (λ (h : n < m). absurd (none h)) (λ (h : m ≤ n). h) (cases_lt n m))
    (λ h less. omega arith)
    (decided_not (decided_less n m))

pub decided_truth : (b d : Bool) → Decided (b ≡ d)
decided_truth true true = inl refl
decided_truth false false = inl refl
decided_truth true false = inr (λ e. cc)
decided_truth false true = inr (λ e. cc)

-- ---- numbers below a bound

module _ (P : ℕ → Type 0) where
  pub decided_below : (n : ℕ) → ((k : ℕ) → k < n → Decided (P k)) → Decided ((k : ℕ) → k < n → P k)
  decided_below zero each = inl (λ k low. absurd (omega arith))
  decided_below (suc n) each =
      decided_same (λ (both : ((k : ℕ) → k < n → P k) × P n). all_below_suc P n both.0 both.1)
      (λ all. ((λ k low. all k (omega arith)), all n (omega arith)))
      (decided_both (decided_below n (λ k low. each k (omega arith))) (each n (omega arith)))

  found_more : (n : ℕ) → Found P n ⊎ P n → Found P (suc n)
  found_more n (inl f) = record { place = f.place; below = omega (arith, f.below); holds = f.holds }
  found_more n (inr p) = record { place = n; below = omega arith; holds = p }

  found_less : (n : ℕ) → Found P (suc n) → Found P n ⊎ P n
  found_less n f = by_place (cases_eq f.place n)
    where
      by_place : (f.place ≡ n) ⊎ (f.place ≡ n → ⊥) → Found P n ⊎ P n
      by_place (inl same) = inr (subst P same f.holds)
      by_place (inr other) =
          inl (record { place = f.place; below = omega (arith, f.below, other); holds = f.holds })

  pub some_below : (n : ℕ) → ((k : ℕ) → k < n → Decided (P k)) → Decided (Found P n)
  some_below zero each = inr (λ f. absurd (omega (arith, f.below)))
  some_below (suc n) each =
      decided_same (found_more n) (found_less n)
      (decided_either (some_below n (λ k low. each k (omega arith))) (each n (omega arith)))

  -- the numbers below n with the property, ascending
  pub record Sieved (n : ℕ) : Type 0 where
    pub list : List ℕ
    pub ascends : IsAscending list
    pub members : (m : ℕ) → IsMember m list → (m < n) × P m
    pub all : (m : ℕ) → m < n → P m → IsMember m list

  -- in some order
  record Kept (n : ℕ) : Type 0 where
    pub list : List ℕ
    pub members : (m : ℕ) → IsMember m list → (m < n) × P m
    pub all : (m : ℕ) → m < n → P m → IsMember m list

  kept_more : (n : ℕ) → Kept n → Decided (P n) → Kept (suc n)
  kept_more n k (inl p) = record {
    list = n ∷ k.list;
    members = members;
    all = λ m low h. by_place m low h (cases_eq m n);
  }
    where
      members : (m : ℕ) → (m ≡ n) ⊎ IsMember m k.list → (m < suc n) × P m
      members m (inl same) = (omega arith, subst P (sym same) p)
      members m (inr h) = let old = k.members m h in (omega (arith, old.0), old.1)

      by_place : (m : ℕ) → m < suc n → P m → (m ≡ n) ⊎ (m ≡ n → ⊥) → (m ≡ n) ⊎ IsMember m k.list
      by_place m low h (inl same) = inl same
      by_place m low h (inr other) = inr (k.all m (omega arith) h)
  kept_more n k (inr none) = record {
    list = k.list;
    members = λ m h. let old = k.members m h in (omega (arith, old.0), old.1);
    all = λ m low h. by_place m low h (cases_eq m n);
  }
    where
      by_place : (m : ℕ) → m < suc n → P m → (m ≡ n) ⊎ (m ≡ n → ⊥) → IsMember m k.list
      by_place m low h (inl same) = absurd (none (subst P same h))
      by_place m low h (inr other) = k.all m (omega arith) h

  kept : (n : ℕ) → ((k : ℕ) → k < n → Decided (P k)) → Kept n
  kept zero each = record { list = []; members = λ m h. absurd h; all = λ m low h. absurd (omega arith) }
  kept (suc n) each = kept_more n (kept n (λ k low. each k (omega arith))) (each n (omega arith))

  pub sieve : (n : ℕ) → ((k : ℕ) → k < n → Decided (P k)) → Sieved n
  sieve n each =
      let k = kept n each in
      record {
        list = ascending k.list;
        ascends = ascending-is k.list;
        members = λ m h. k.members m (ascending-member m k.list h);
        all = λ m low h. member-ascending m k.list (k.all m low h);
      }

-- ---- members of a list

-- some member has the property
pub record Having {X : Type 0} (P : X → Type 0) (xs : List X) : Type 0 where
  pub item : X
  pub member : IsMember item xs
  pub holds : P item

module _ {X : Type 0} (P : X → Type 0) where
  all_more : (x : X) (xs : List X) → P x × ((y : X) → IsMember y xs → P y) → (y : X) → IsMember y (x ∷ xs) → P y
  all_more x xs both y (inl same) = subst P (sym same) both.0
  all_more x xs both y (inr later) = both.1 y later

  pub decided_members : (xs : List X)
      → ((x : X) → IsMember x xs → Decided (P x))
      → Decided ((x : X) → IsMember x xs → P x)
  decided_members [] each = inl (λ x h. absurd h)
  decided_members (x ∷ xs) each =
      decided_same (all_more x xs) (λ all. (all x (inl refl), (λ y h. all y (inr h))))
      (decided_both (each x (inl refl)) (decided_members xs (λ y h. each y (inr h))))

  having_more : (x : X) (xs : List X) → P x ⊎ Having P xs → Having P (x ∷ xs)
  having_more x xs (inl p) = record { item = x; member = inl refl; holds = p }
  having_more x xs (inr h) = record { item = h.item; member = inr h.member; holds = h.holds }

  having_less : (x : X) (xs : List X) → Having P (x ∷ xs) → P x ⊎ Having P xs
  having_less x xs h = by_place h.member
    where
      by_place : (h.item ≡ x) ⊎ IsMember h.item xs → P x ⊎ Having P xs
      by_place (inl same) = inl (subst P same h.holds)
      by_place (inr later) = inr (record { item = h.item; member = later; holds = h.holds })

  pub some_member : (xs : List X) → ((x : X) → IsMember x xs → Decided (P x)) → Decided (Having P xs)
  some_member [] each = inr (λ h. h.member)
  some_member (x ∷ xs) each =
      decided_same (having_more x xs) (having_less x xs)
      (decided_either (each x (inl refl)) (some_member xs (λ y h. each y (inr h))))

pub decided_member : {X : Type 0}
    → ((x y : X) → Decided (x ≡ y))
    → (x : X) (xs : List X)
    → Decided (IsMember x xs)
decided_member same x [] = inr (λ h. h)
decided_member same x (y ∷ ys) = decided_either (same x y) (decided_member same x ys)

-- one of the two truth values has the property
pub some_truth : (P : Bool → Type 0) → ((b : Bool) → Decided (P b)) → Decided ((b : Bool) × P b)
some_truth P each = decided_same there (λ h. back h.0 h.1) (decided_either (each true) (each false))
  where
    there : P true ⊎ P false → (b : Bool) × P b
    there (inl p) = (true, p)
    there (inr p) = (false, p)

    back : (b : Bool) → P b → P true ⊎ P false
    back true p = inl p
    back false p = inr p

-- ---- the first bad number

-- the first number below n that is bad: all before it are good
pub record FirstWith (Good Bad : ℕ → Type 0) (n : ℕ) : Type 0 where
  pub place : ℕ
  pub below : place < n
  pub before : (j : ℕ) → j < place → Good j
  pub bad : Bad place

-- each number is judged where all before it are good
pub first_bad : (Good Bad : ℕ → Type 0) (n : ℕ)
    → ((k : ℕ) → k < n → ((j : ℕ) → j < k → Good j) → Good k ⊎ Bad k)
    → ((k : ℕ) → k < n → Good k) ⊎ FirstWith Good Bad n
first_bad Good Bad zero judge = inl (λ k low. absurd (omega arith))
first_bad Good Bad (suc n) judge = go (first_bad Good Bad n (λ k low. judge k (omega arith)))
  where
    last : ((k : ℕ) → k < n → Good k) → Good n ⊎ Bad n → ((k : ℕ) → k < suc n → Good k) ⊎ FirstWith Good Bad (suc n)
    last before (inl good) = inl (all_below_suc Good n before good)
    last before (inr bad) = inr (record { place = n; below = omega arith; before = before; bad = bad })

    go : ((k : ℕ) → k < n → Good k) ⊎ FirstWith Good Bad n
        → ((k : ℕ) → k < suc n → Good k) ⊎ FirstWith Good Bad (suc n)
    go (inl all) = last all (judge n (omega arith) all)
    go (inr f) = inr (record { place = f.place; below = omega (arith, f.below); before = f.before; bad = f.bad })
