-- The least number with a property, and how it is found.
--
--   same_least       == of equal properties
--   lesser_least     == the lesser of two is the least of both
--   offered_least    == the least of one and of the nodes with a priority
use Rattle.std.proofs.Common.{ℕ, ◌≡◌, ◌==◌, ◌<◌, ◌≤◌, ◌⊎◌, inl, inr, true, false, cond, nat_lt, List, [], ◌∷◌, Option, Some, None, refl, sym, ap, ◌∙◌, subst, arith}
use Rattle.std.proofs.lemmas.Bool.{cases_Bool, cond-true, cond-false, eqb-true}
use Rattle.std.proofs.lemmas.Bool.Decides.{nat_tests}
use Rattle.ml_lists.specs.Member.{IsMember}
use Rattle.ml_graph.specs.Graph.{Graph, priority_at}
use Rattle.ml_sequent.specs.private.ConnectedParts.{IsLeast, lesser, offered}

-- of equal properties
pub same_least : (P Q : ℕ → Type 0) (o : Option ℕ) → ((n : ℕ) → P n → Q n) → ((n : ℕ) → Q n → P n) → IsLeast P o → IsLeast Q o
same_least P Q None to from is = λ n h. is n (from n h)
same_least P Q (Some b) to from is = (to b is.0, λ n h. is.1 n (from n h))

-- the lesser of two is the least of both
pub lesser_least : (P Q : ℕ → Type 0) (o p : Option ℕ) → IsLeast P o → IsLeast Q p → IsLeast (λ n. P n ⊎ Q n) (lesser o p)
lesser_least P Q None None is_o is_p = both
  where
    both : (n : ℕ) → P n ⊎ Q n → ⊥
    both n (inl h) = is_o n h
    both n (inr h) = is_p n h
lesser_least P Q None (Some b) is_o is_p = (inr is_p.0, least)
  where
    least : (n : ℕ) → P n ⊎ Q n → b ≤ n
    least n (inl h) = absurd (is_o n h)
    least n (inr h) = is_p.1 n h
lesser_least P Q (Some a) None is_o is_p = (inl is_o.0, least)
  where
    least : (n : ℕ) → P n ⊎ Q n → a ≤ n
    least n (inl h) = is_o.1 n h
    least n (inr h) = absurd (is_p n h)
lesser_least P Q (Some a) (Some b) is_o is_p = by_test (cases_Bool (nat_lt b a))
  where
    second : b < a → (n : ℕ) → P n ⊎ Q n → b ≤ n
    second less n (inl h) = omega (arith, is_o.1 n h)
    second less n (inr h) = is_p.1 n h

    first : a ≤ b → (n : ℕ) → P n ⊎ Q n → a ≤ n
    first more n (inl h) = is_o.1 n h
    first more n (inr h) = omega (arith, is_p.1 n h)

    by_test : (nat_lt b a ≡ true) ⊎ (nat_lt b a ≡ false) → IsLeast (λ n. P n ⊎ Q n) (cond (nat_lt b a) (Some b) (Some a))
    by_test (inl test) =
        let less : b < a = grind (arith, nat_tests) in
        subst (IsLeast (λ n. P n ⊎ Q n)) (sym (cond-true (nat_lt b a) (Some b) (Some a) test)) (inr is_p.0, second less)
    by_test (inr test) =
        let more : a ≤ b = grind (arith, nat_tests) in
        subst (IsLeast (λ n. P n ⊎ Q n)) (sym (cond-false (nat_lt b a) (Some b) (Some a) test)) (inl is_o.0, first more)

-- one number is the least that is it
only_one : (m : ℕ) → IsLeast (λ n. n ≡ m) (Some m)
only_one m = (refl, λ n e. omega arith)

-- the least of one and of the nodes with a priority
pub offered_least : (g : Graph) (d : ℕ) (ns : List ℕ) (P : ℕ → Type 0) (best : Option ℕ)
    → IsLeast P best
    → IsLeast (λ n. P n ⊎ (IsMember n ns × (priority_at g n ≡ d))) (offered g d ns best)
offered_least g d [] P best is = same_least P (λ n. P n ⊎ (IsMember n [] × (priority_at g n ≡ d))) best (λ n h. inl h) from is
  where
    from : (n : ℕ) → P n ⊎ (IsMember n [] × (priority_at g n ≡ d)) → P n
    from n (inl h) = h
    from n (inr none) = absurd none.0
offered_least g d (k ∷ ns) P best is =
    by_test (cases_Bool (priority_at g k == d)) (offered_least g d ns P best is)
    (offered_least g d ns (λ n. P n ⊎ (n ≡ k)) (lesser best (Some k)) (lesser_least P (λ n. n ≡ k) best (Some k) is (only_one k)))
  where
    by_test : ((priority_at g k == d) ≡ true) ⊎ ((priority_at g k == d) ≡ false)
        → IsLeast (λ n. P n ⊎ (IsMember n ns × (priority_at g n ≡ d))) (offered g d ns best)
        → IsLeast (λ n. (P n ⊎ (n ≡ k)) ⊎ (IsMember n ns × (priority_at g n ≡ d))) (offered g d ns (lesser best (Some k)))
        → IsLeast (λ n. P n ⊎ (IsMember n (k ∷ ns) × (priority_at g n ≡ d))) (offered g d ns (cond (priority_at g k == d) (lesser best (Some k)) best))
    by_test (inl test) plain with_it =
        let high : priority_at g k ≡ d = eqb-true (priority_at g k) d test in
        subst (λ o. IsLeast (λ n. P n ⊎ (IsMember n (k ∷ ns) × (priority_at g n ≡ d))) (offered g d ns o)) (sym (cond-true (priority_at g k == d) (lesser best (Some k)) best test))
        (same_least (λ n. (P n ⊎ (n ≡ k)) ⊎ (IsMember n ns × (priority_at g n ≡ d))) (λ n. P n ⊎ (IsMember n (k ∷ ns) × (priority_at g n ≡ d)))
        (offered g d ns (lesser best (Some k))) (to high) from with_it)
      where
        to : priority_at g k ≡ d → (n : ℕ) → (P n ⊎ (n ≡ k)) ⊎ (IsMember n ns × (priority_at g n ≡ d)) → P n ⊎ (IsMember n (k ∷ ns) × (priority_at g n ≡ d))
        to high n (inl (inl h)) = inl h
        to high n (inl (inr e)) = inr (inl e, ap (priority_at g) e ∙ high)
        to high n (inr h) = inr (inr h.0, h.1)

        from : (n : ℕ) → P n ⊎ (IsMember n (k ∷ ns) × (priority_at g n ≡ d)) → (P n ⊎ (n ≡ k)) ⊎ (IsMember n ns × (priority_at g n ≡ d))
        from n (inl h) = inl (inl h)
        from n (inr (inl e, p)) = inl (inr e)
        from n (inr (inr m, p)) = inr (m, p)
    by_test (inr test) plain with_it =
        subst (λ o. IsLeast (λ n. P n ⊎ (IsMember n (k ∷ ns) × (priority_at g n ≡ d))) (offered g d ns o)) (sym (cond-false (priority_at g k == d) (lesser best (Some k)) best test))
        (same_least (λ n. P n ⊎ (IsMember n ns × (priority_at g n ≡ d))) (λ n. P n ⊎ (IsMember n (k ∷ ns) × (priority_at g n ≡ d)))
        (offered g d ns best) to from plain)
      where
        to : (n : ℕ) → P n ⊎ (IsMember n ns × (priority_at g n ≡ d)) → P n ⊎ (IsMember n (k ∷ ns) × (priority_at g n ≡ d))
        to n (inl h) = inl h
        to n (inr h) = inr (inr h.0, h.1)

        other : (n : ℕ) → n ≡ k → priority_at g n ≡ d → ⊥
        other n e p =
            let here : priority_at g k ≡ d = ap (priority_at g) (sym e) ∙ p in
            let differ : (priority_at g k == d) ≡ true = grind (arith, nat_tests) in
            absurd (cc)

        from : (n : ℕ) → P n ⊎ (IsMember n (k ∷ ns) × (priority_at g n ≡ d)) → P n ⊎ (IsMember n ns × (priority_at g n ≡ d))
        from n (inl h) = inl h
        from n (inr (inl e, p)) = absurd (other n e p)
        from n (inr (inr m, p)) = inr (m, p)
