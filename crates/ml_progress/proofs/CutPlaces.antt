-- Ascending lists, cut at a number: what stands in front is at most the number, and what is at most it stands in front.
--
--   cut_fits     == there is as much in front at most as there is in the list
--   cut_low      == each number in front is at most the number
--   cut_place    == each number of the list that is at most the number stands in front
--   before_from  == lists of which one is at no place the larger one, and somewhere the smaller one
use Rattle.std.proofs.Common.{ℕ, zero, suc, ◌≡◌, ◌<◌, ◌≤◌, ◌⊎◌, inl, inr, arith, List, [], ◌∷◌, length, get_or, refl, sym}
use Rattle.std.proofs.lemmas.Bool.{cases_lt}
use Rattle.ml_lists.specs.Ascending.{IsAscending}
use Rattle.ml_lists.specs.Member.{IsMember}
use Rattle.ml_lists.specs.Found.{First}
use Rattle.ml_lists.proofs.Decided.{decided_less}
use Rattle.ml_lists.proofs.Search.{search_first}
use Rattle.ml_progress.specs.Measure.{ComesBefore}
use Rattle.ml_progress.proofs.Cuts.{up_to, up_to-within, up_to-above}

-- there is as much in front at most as there is in the list
pub cut_fits : (m : ℕ) (ks : List ℕ) → up_to m ks ≤ length ks
cut_fits m [] = omega arith
cut_fits m (k ∷ ks) = by_case (cut_fits m ks) (cases_lt m k)
  where
    by_case : up_to m ks ≤ length ks → (m < k) ⊎ (k ≤ m) → up_to m (k ∷ ks) ≤ length (k ∷ ks)
    by_case rest (inl high) = omega (arith, up_to-above m k ks high)
    by_case rest (inr low) = omega (arith, up_to-within m k ks low)

-- nothing stands in front where all numbers are larger
none_low : (m : ℕ) (ks : List ℕ) → ((y : ℕ) → IsMember y ks → m < y) → up_to m ks ≡ 0
none_low m [] high = refl
none_low m (k ∷ ks) high =
    omega (arith, up_to-above m k ks (high k (inl refl)), none_low m ks (λ y inside. high y (inr inside)))

-- each number in front is at most the number
pub cut_low : (m : ℕ) (ks : List ℕ) → IsAscending ks → (i : ℕ) → i < up_to m ks → get_or ks i 0 ≤ m
cut_low m [] up i low = absurd (omega arith)
cut_low m (k ∷ ks) up i low = by_case i low (cut_low m ks up.1) (cases_lt m k)
  where
    by_case : (i : ℕ) → i < up_to m (k ∷ ks) → ((j : ℕ) → j < up_to m ks → get_or ks j 0 ≤ m) → (m < k) ⊎ (k ≤ m)
        → get_or (k ∷ ks) i 0 ≤ m
    by_case i front rest (inl high) =
        let none = none_low m ks (λ y inside. omega (arith, up.0 y inside)) in
        absurd (omega (arith, up_to-above m k ks high))
    by_case zero front rest (inr within) = within
    by_case (suc i) front rest (inr within) = rest i (omega (arith, up_to-within m k ks within))

-- a place in front
pub record CutPlace (m : ℕ) (ks : List ℕ) (x : ℕ) : Type 0 where
  pub place : ℕ
  pub front : place < up_to m ks
  pub there : get_or ks place 0 ≡ x

-- each number of the list that is at most the number stands in front
pub cut_place : (m : ℕ) (ks : List ℕ) (x : ℕ) → IsMember x ks → x ≤ m → IsAscending ks → CutPlace m ks x
cut_place m [] x inside low up = absurd inside
cut_place m (k ∷ ks) x (inl same) low up =
    record { place = 0; front = omega (arith, up_to-within m k ks (omega arith)); there = sym same }
cut_place m (k ∷ ks) x (inr later) low up =
    let rest = cut_place m ks x later low up.1 in
    record {
      place = suc rest.place;
      front = omega (arith, rest.front, up_to-within m k ks (omega (arith, up.0 x later)));
      there = rest.there;
    }

-- lists of which one is at no place the larger one, and somewhere the smaller one
pub before_from : (xs ys : List ℕ)
    → ((i : ℕ) → i < length xs → get_or xs i 0 ≤ get_or ys i 0)
    → (j : ℕ)
    → j < length xs
    → get_or xs j 0 < get_or ys j 0
    → ComesBefore xs ys
before_from xs ys each j low smaller =
    from (search_first (λ i. get_or xs i 0 < get_or ys i 0) (λ i. decided_less (get_or xs i 0) (get_or ys i 0)) (length xs))
  where
    same_below : (k i : ℕ) → k < length xs → i < k → (get_or xs i 0 < get_or ys i 0 → ⊥) → get_or xs i 0 ≡ get_or ys i 0
    same_below k i within below none = by_case (cases_lt (get_or xs i 0) (get_or ys i 0))
      where
        by_case : (get_or xs i 0 < get_or ys i 0) ⊎ (get_or ys i 0 ≤ get_or xs i 0) → get_or xs i 0 ≡ get_or ys i 0
        by_case (inl less) = absurd (none less)
        by_case (inr more) = omega (arith, each i (omega arith))

    from : First (λ i. get_or xs i 0 < get_or ys i 0) (length xs) ⊎ ((i : ℕ) → i < length xs → get_or xs i 0 < get_or ys i 0 → ⊥)
        → ComesBefore xs ys
    from (inl f) = record {
      place = f.place;
      within = f.is_first.below;
      same = λ i below. same_below f.place i f.is_first.below below (f.is_first.before i below);
      smaller = f.is_first.holds;
    }
    from (inr none) = absurd (none j low smaller)
