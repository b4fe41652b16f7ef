-- Numbers that come in turn are told by which of them are equal.
--
--   IsNew n xs i  == the i-th number is above all before it, and those below it, from n on, came before
--   old_or_new    == the i-th number is below n, or came before, or is new
--   same_before, one_run == two runs of which the same places are equal are the same
--   one_end       == and end at the same number
use Rattle.std.proofs.Common.{ℕ, zero, suc, ◌≡◌, ◌+◌, ◌<◌, ◌≤◌, ◌⊎◌, ◌↔◌, inl, inr, List, [], ◌∷◌, length, get_or, sym, ◌∙◌, arith}
use Rattle.std.proofs.lemmas.Bool.{cases_eq, cases_order}
use Rattle.std.proofs.lemmas.List.{ext_get_or}
use Rattle.ml_lists.specs.InTurn.{RunsOn}
use Rattle.ml_lists.proofs.Search.{all_below_suc}
use Rattle.ml_bisim.proofs.Turns.{runs_low, runs_place}

record IsNew (n : ℕ) (xs : List ℕ) (i : ℕ) : Type 0 where
  pub least : n ≤ get_or xs i 0
  pub all_before : (v : ℕ) → n ≤ v → v < get_or xs i 0 → (j : ℕ) × (j < i) × (get_or xs j 0 ≡ v)
  pub above : (j : ℕ) → j < i → get_or xs j 0 < get_or xs i 0

-- the i-th number came before
CameBefore : List ℕ → ℕ → Type 0
CameBefore xs i = (j : ℕ) × (j < i) × (get_or xs j 0 ≡ get_or xs i 0)

abbrev OldOrNew : ℕ → List ℕ → ℕ → Type 0
OldOrNew n xs i = (get_or xs i 0 < n) ⊎ (CameBefore xs i ⊎ IsNew n xs i)

-- with one number more in front, which isn't new
behind_old : (n x : ℕ) (xs : List ℕ) (i : ℕ) → x < n → OldOrNew n xs i → OldOrNew n (x ∷ xs) (suc i)
unfolding CameBefore
behind_old n x xs i low (inl known) = inl known
behind_old n x xs i low (inr (inl before)) = inr (inl (suc before.0, omega (arith, before.1), before.2))
behind_old n x xs i low (inr (inr new)) = inr (inr (record {
  least = new.least;
  all_before = λ v from under.
      let found = new.all_before v from under in (suc found.0, omega (arith, found.1), found.2);
  above = above;
}))
  where
    above : (j : ℕ) → j < suc i → get_or (x ∷ xs) j 0 < get_or xs i 0
    above zero under = omega (arith, low, new.least)
    above (suc j) under = new.above j (omega arith)

-- with one more that is
behind_new : (n x : ℕ) (xs : List ℕ) (i : ℕ) → x ≡ n → OldOrNew (n + 1) xs i → OldOrNew n (x ∷ xs) (suc i)
unfolding CameBefore
behind_new n x xs i is (inl known) = by_case (cases_eq (get_or xs i 0) n)
  where
    by_case : (get_or xs i 0 ≡ n) ⊎ (get_or xs i 0 ≡ n → ⊥) → OldOrNew n (x ∷ xs) (suc i)
    by_case (inl same) = inr (inl (0, omega arith, is ∙ sym same))
    by_case (inr other) = inl (omega (arith, known, other))
behind_new n x xs i is (inr (inl before)) = inr (inl (suc before.0, omega (arith, before.1), before.2))
behind_new n x xs i is (inr (inr new)) = inr (inr (record {
  least = omega (arith, new.least);
  all_before = λ v from under. all_before v from under (cases_eq v n);
  above = above;
}))
  where
    all_before : (v : ℕ) → n ≤ v → v < get_or xs i 0 → (v ≡ n) ⊎ (v ≡ n → ⊥)
        → (j : ℕ) × (j < suc i) × (get_or (x ∷ xs) j 0 ≡ v)
    all_before v from under (inl same) = (0, omega arith, is ∙ sym same)
    all_before v from under (inr other) =
        let found = new.all_before v (omega (arith, from, other)) under in (suc found.0, omega (arith, found.1), found.2)

    above : (j : ℕ) → j < suc i → get_or (x ∷ xs) j 0 < get_or xs i 0
    above zero under = omega (arith, is, new.least)
    above (suc j) under = new.above j (omega arith)

old_or_new : (n m : ℕ) (xs : List ℕ) → RunsOn n xs m → (i : ℕ) → i < length xs → OldOrNew n xs i
old_or_new n m [] runs i low = absurd (omega arith)
old_or_new n m (x ∷ xs) (inl old) zero low = inl old.0
old_or_new n m (x ∷ xs) (inr new) zero low = inr (inr (record {
  least = omega (arith, new.0);
  all_before = λ v from under. absurd (omega (arith, new.0, from, under));
  above = λ j under. absurd (omega arith);
}))
old_or_new n m (x ∷ xs) (inl old) (suc i) low = behind_old n x xs i old.0 (old_or_new n m xs old.1 i (omega arith))
old_or_new n m (x ∷ xs) (inr new) (suc i) low = behind_new n x xs i new.0 (old_or_new (n + 1) m xs new.1 i (omega arith))

module _ (m k : ℕ) (xs ys : List ℕ) (xs_run : RunsOn 0 xs m) (ys_run : RunsOn 0 ys k) (long : length xs ≡ length ys)
    (alike : (i j : ℕ) → i < length xs → j < length xs
    → (get_or xs i 0 ≡ get_or xs j 0) ↔ (get_or ys i 0 ≡ get_or ys j 0)) where
  abbrev AreSame : ℕ → Type 0
  AreSame i = get_or xs i 0 ≡ get_or ys i 0

  here : (i : ℕ) → i < length xs → ((j : ℕ) → j < i → AreSame j) → AreSame i
  unfolding CameBefore
  here i low before = by_both (old_or_new 0 m xs xs_run i low) (old_or_new 0 k ys ys_run i (omega (arith, low, long)))
    where
      by_order : IsNew 0 xs i → IsNew 0 ys i
          → (get_or xs i 0 ≡ get_or ys i 0) ⊎ ((get_or xs i 0 < get_or ys i 0) ⊎ (get_or ys i 0 < get_or xs i 0))
          → AreSame i
      by_order a b (inl same) = same
      by_order a b (inr (inl less)) =
          let found = b.all_before (get_or xs i 0) (omega arith) less in
          absurd (omega (arith, before found.0 found.1, found.2, a.above found.0 found.1))
      by_order a b (inr (inr more)) =
          let found = a.all_before (get_or ys i 0) (omega arith) more in
          absurd (omega (arith, before found.0 found.1, found.2, b.above found.0 found.1))

      by_both : OldOrNew 0 xs i → OldOrNew 0 ys i → AreSame i
      by_both (inl none) other = absurd (omega arith)
      by_both (inr (inl old)) other =
          sym old.2 ∙ before old.0 old.1 ∙ (alike old.0 i (omega (arith, old.1, low)) low).0 old.2
      by_both (inr (inr new)) (inl none) = absurd (omega arith)
      by_both (inr (inr new)) (inr (inl old)) =
          sym ((alike old.0 i (omega (arith, old.1, low)) low).1 old.2) ∙ before old.0 old.1 ∙ old.2
      by_both (inr (inr a)) (inr (inr b)) = by_order a b (cases_order (get_or xs i 0) (get_or ys i 0))

  same_before : (i : ℕ) → i ≤ length xs → (j : ℕ) → j < i → AreSame j
  same_before zero low = λ j under. absurd (omega arith)
  same_before (suc i) low =
      let before = same_before i (omega arith) in all_below_suc AreSame i before (here i (omega arith) before)

  pub one_run : xs ≡ ys
  one_run = ext_get_or 0 xs ys long (λ i low. same_before (length xs) (omega arith) i low)

  pub one_end : m ≡ k
  one_end = by_order (cases_order m k)
    where
      by_order : (m ≡ k) ⊎ ((m < k) ⊎ (k < m)) → m ≡ k
      by_order (inl same) = same
      by_order (inr (inl less)) =
          let found = runs_place k ys ys_run m less in
          let low : found.0 < length xs = omega (arith, found.1, long) in
          absurd (omega (arith, found.2, same_before (length xs) (omega arith) found.0 low, runs_low 0 m xs xs_run found.0 low))
      by_order (inr (inr more)) =
          let found = runs_place m xs xs_run k more in
          let low : found.0 < length ys = omega (arith, found.1, long) in
          absurd (omega (arith, found.2, same_before (length xs) (omega arith) found.0 found.1, runs_low 0 k ys ys_run found.0 low))
