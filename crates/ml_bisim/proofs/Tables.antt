-- Numbers of keys, by a table that has each key once.
--
--   IsTable eq ks table ns == the numbers ns of the keys ks are their places in the table
--   table_none, table_more == without keys, and with one key more
--   are_numbers            == so equal keys have one number, and each new number is the next
use Rattle.std.proofs.Common.{ℕ, ◌≡◌, ◌+◌, ◌⊎◌, inl, inr, Bool, true, false, if◌then◌else◌, List, [], ◌∷◌, ◌++◌, length}
use Rattle.std.proofs.Common.{length-append, get_or, slice_get, Some, sym, ap, ◌∙◌, subst, arith, true≢false}
use Rattle.std.specs.Cmp.{IsEquivalence}
use Rattle.std.specs.List.{list_any}
use Rattle.std.proofs.lemmas.Bool.{cases_Bool, cond-true, cond-false}
use Rattle.std.proofs.lemmas.List.{get_or_append_left, get_or-append-add}
use Rattle.std.proofs.lemmas.Option.{slice_get_within, slice_get-get_or, same_Some}
use Rattle.ml_lists.specs.InTurn.{RunsOn}
use Rattle.ml_lists.proofs.Added.{last_or}
use Rattle.ml_lists.proofs.InTurn.{runs_append}
use Rattle.ml_lists.proofs.Member.{member-list_any, member_of_get}
use Rattle.ml_bisim.specs.private.Numbers.{AreNumbers}

module _ {K : Type 0} (eq : K → K → Bool) (laws : IsEquivalence eq) where
  -- the key at a place of the table is equal to x
  pub record StandsFor (table : List K) (place : ℕ) (x : K) : Type 0 where
    pub key : K
    pub at : slice_get table place ≡ Some key
    pub equal : eq x key ≡ true

  pub record IsTable (ks table : List K) (ns : List ℕ) : Type 0 where
    pub each_key : length ns ≡ length ks
    pub stands : (i : ℕ) (x : K) → slice_get ks i ≡ Some x → StandsFor table (get_or ns i 0) x
    pub once : (i j : ℕ) (x y : K) → slice_get table i ≡ Some x → slice_get table j ≡ Some y → eq x y ≡ true → i ≡ j
    pub in_turn : RunsOn 0 ns (length table)

  both_equal : (x y z : K) → eq x y ≡ true → eq x z ≡ true → eq y z ≡ true
  both_equal x y z e f = sym (laws.congr x y z e) ∙ f

  turned : (x y : K) → eq x y ≡ true → eq y x ≡ true
  turned x y e = laws.symm y x ∙ e

  pub table_none : (table : List K) (ns : List ℕ) → table ≡ [] → ns ≡ [] → IsTable [] table ns
  table_none table ns none no_numbers = record {
    each_key = ap length no_numbers;
    stands = λ i x at. absurd (cc);
    once = λ i j x y here there e.
        let wrong : slice_get [] i ≡ Some x = ap (λ t. slice_get t i) (sym none) ∙ here in absurd (cc);
    in_turn = subst (λ xs. RunsOn 0 xs (length table)) (sym no_numbers) (sym (ap length none));
  }

  module _ (ks table new : List K) (ns : List ℕ) (k : K) (i : ℕ) (t : IsTable ks table ns)
      (keys : new ≡ (if list_any (eq k) table then table else table ++ k ∷ [])) (stored : StandsFor new i k) where
    last : get_or (ns ++ i ∷ []) (length ks) 0 ≡ i
    last =
        let at : length ks ≡ length ns + 0 = omega (arith, t.each_key) in
        ap (λ p. get_or (ns ++ i ∷ []) p 0) at ∙ get_or-append-add ns (i ∷ []) 0 0

    -- where the table keeps its keys at their places
    with_places : ((p : ℕ) (x : K) → slice_get table p ≡ Some x → slice_get new p ≡ Some x)
        → ((p q : ℕ) (x y : K) → slice_get new p ≡ Some x → slice_get new q ≡ Some y → eq x y ≡ true → p ≡ q)
        → RunsOn (length table) (i ∷ []) (length new)
        → IsTable (ks ++ k ∷ []) new (ns ++ i ∷ [])
    with_places keeps once runs = record {
      each_key = omega (arith, length-append ns (i ∷ []), length-append ks (k ∷ []), t.each_key);
      stands = λ j x at. by_place j x (last_or ks k x j at);
      once = once;
      in_turn = runs_append 0 (length table) (length new) ns (i ∷ []) t.in_turn runs;
    }
      where
        by_place : (j : ℕ) (x : K) → (slice_get ks j ≡ Some x) ⊎ ((j ≡ length ks) × (x ≡ k))
            → StandsFor new (get_or (ns ++ i ∷ []) j 0) x
        by_place j x (inl there) =
            let low = slice_get_within ks j x there in
            let old = t.stands j x there in
            subst (λ p. StandsFor new p x)
            (sym (get_or_append_left ns (i ∷ []) 0 j (omega (arith, t.each_key, low))))
            (record { key = old.key; at = keeps (get_or ns j 0) old.key old.at; equal = old.equal })
        by_place j x (inr end) =
            subst (λ p. StandsFor new p x) (sym (ap (λ p. get_or (ns ++ i ∷ []) p 0) end.0 ∙ last))
            (subst (λ y. StandsFor new i y) (sym end.1) stored)

    known : new ≡ table → IsTable (ks ++ k ∷ []) new (ns ++ i ∷ [])
    known same = with_places
        (λ p x at. ap (λ xs. slice_get xs p) same ∙ at)
        (λ p q x y at_p at_q e. t.once p q x y (sym (ap (λ xs. slice_get xs p) same) ∙ at_p)
        (sym (ap (λ xs. slice_get xs q) same) ∙ at_q) e)
        (inl (slice_get_within table i stored.key (sym (ap (λ xs. slice_get xs i) same) ∙ stored.at), sym (ap length same)))

    -- the key is equal to none of the table
    module _ (none : list_any (eq k) table ≡ false) (same : new ≡ table ++ k ∷ []) where
      not_there : (p : ℕ) (x : K) → slice_get table p ≡ Some x → eq k x ≡ true → ⊥
      not_there p x at e =
          true≢false (sym (member-list_any (eq k) x table (member_of_get table p x at) e) ∙ none)

      place_of : (p : ℕ) (x : K) → slice_get new p ≡ Some x
          → (slice_get table p ≡ Some x) ⊎ ((p ≡ length table) × (x ≡ k))
      place_of p x at = last_or table k x p (sym (ap (λ xs. slice_get xs p) same) ∙ at)

      is_last : (slice_get table i ≡ Some stored.key) ⊎ ((i ≡ length table) × (stored.key ≡ k)) → i ≡ length table
      is_last (inl there) = absurd (not_there i stored.key there stored.equal)
      is_last (inr end) = end.0

      one_place : (p q : ℕ) (x y : K) → (slice_get table p ≡ Some x) ⊎ ((p ≡ length table) × (x ≡ k))
          → (slice_get table q ≡ Some y) ⊎ ((q ≡ length table) × (y ≡ k)) → eq x y ≡ true → p ≡ q
      one_place p q x y (inl a) (inl b) e = t.once p q x y a b e
      one_place p q x y (inl a) (inr b) e =
          absurd (not_there p x a (turned x k (subst (λ z. eq x z ≡ true) b.1 e)))
      one_place p q x y (inr a) (inl b) e = absurd (not_there q y b (subst (λ z. eq z y ≡ true) a.1 e))
      one_place p q x y (inr a) (inr b) e = a.0 ∙ sym b.0

      kept : (p : ℕ) (x : K) → slice_get table p ≡ Some x → slice_get new p ≡ Some x
      kept p x at =
          let low = slice_get_within table p x at in
          ap (λ xs. slice_get xs p) same
          ∙ slice_get-get_or (table ++ k ∷ []) p x (omega (arith, length-append table (k ∷ []), low))
          ∙ ap Some (get_or_append_left table (k ∷ []) x p low)
          ∙ sym (slice_get-get_or table p x low)
          ∙ at

      added : IsTable (ks ++ k ∷ []) new (ns ++ i ∷ [])
      added = with_places kept
          (λ p q x y at_p at_q e. one_place p q x y (place_of p x at_p) (place_of q y at_q) e)
          (inr (is_last (place_of i stored.key stored.at), sym (ap length same ∙ length-append table (k ∷ []))))

    pub table_more : IsTable (ks ++ k ∷ []) new (ns ++ i ∷ [])
    table_more = by_test (cases_Bool (list_any (eq k) table))
      where
        by_test : (list_any (eq k) table ≡ true) ⊎ (list_any (eq k) table ≡ false)
            → IsTable (ks ++ k ∷ []) new (ns ++ i ∷ [])
        by_test (inl there) = known (keys ∙ cond-true (list_any (eq k) table) table (table ++ k ∷ []) there)
        by_test (inr new) = added new (keys ∙ cond-false (list_any (eq k) table) table (table ++ k ∷ []) new)

  pub are_numbers : (ks table : List K) (ns : List ℕ) → IsTable ks table ns → AreNumbers eq ks ns (length table)
  are_numbers ks table ns t = record {
    each_key = t.each_key;
    same = λ i j x y here there.
        let a = t.stands i x here in
        let b = t.stands j y there in (
          (λ e.
              let one : a.key ≡ b.key = same_Some _ _ (sym a.at ∙ ap (slice_get table) e ∙ b.at) in
              both_equal a.key x y (turned x a.key a.equal)
              (turned y a.key (subst (λ z. eq y z ≡ true) (sym one) b.equal))),
          (λ e. t.once (get_or ns i 0) (get_or ns j 0) a.key b.key a.at b.at
              (both_equal x a.key b.key a.equal (turned b.key x (both_equal y b.key x b.equal (turned x y e))))),
        );
    in_turn = t.in_turn;
  }
