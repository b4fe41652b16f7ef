-- While one eventuality is put off, the focus can move on only so often: it comes to that eventuality, and stays.
--
--   rank m e k      == how many moves the focus k is away from e, among m
--   rank_falls      == an edge keeps the rank and is bad, or the rank falls
use Rattle.std.proofs.Common.{ℕ, ◌≡◌, ◌+◌, ◌-◌, ◌<◌, ◌≤◌, ◌%◌, ◌&&◌, ◌==◌, ◌⊎◌, inl, inr, arith, true, false, List, [], ◌∷◌, length, get_or, refl, sym, ap, subst, ◌∙◌, ⊎_elim, eq-eqb}
use Rattle.std.proofs.lemmas.Bool.{cases_Bool, cases_eq, cases_lt, cond-true, cond-false, false≢true, and_from}
use Rattle.std.proofs.Math.Nat.{mod-eq_of_lt, mod_self}
use Rattle.ml_lists.specs.Member.{IsMember}
use Rattle.ml_lists.proofs.Member.{member-list_any}
use Rattle.ml_blocks.specs.Items.{Item}
use Rattle.ml_blocks.specs.ItemSets.{key, due}
use Rattle.ml_blocks.specs.Places.{is_put_off, focus_behind, edge_priority}

pub rank_by : (m e k : ℕ) → (e < k) ⊎ (k ≤ e) → ℕ
rank_by m e k (inl past) = e + m - k
rank_by m e k (inr ahead) = e - k

abbrev pub rank : ℕ → ℕ → ℕ → ℕ
rank m e k = rank_by m e k (cases_lt e k)

rank_past : (m e k : ℕ) → e < k → rank m e k ≡ e + m - k
unfolding rank_by
rank_past m e k past = by_case (cases_lt e k)
  where
    by_case : (c : (e < k) ⊎ (k ≤ e)) → rank_by m e k c ≡ e + m - k
    by_case (inl p) = refl
    by_case (inr a) = absurd (omega (arith, past, a))

rank_ahead : (m e k : ℕ) → k ≤ e → rank m e k ≡ e - k
unfolding rank_by
rank_ahead m e k ahead = by_case (cases_lt e k)
  where
    by_case : (c : (e < k) ⊎ (k ≤ e)) → rank_by m e k c ≡ e - k
    by_case (inl p) = absurd (omega (arith, ahead, p))
    by_case (inr a) = refl

-- one more, round about
moved : (m e k : ℕ) → e < m → k < m → (k ≡ e → ⊥) → rank m e ((k + 1) % m) < rank m e k
moved m e k low under other =
    ⊎_elim
    (λ (room : k + 1 < m). subst (λ n. rank m e n < rank m e k) (sym (mod-eq_of_lt room)) (onward room))
    (λ (full : m ≤ k + 1). subst (λ n. rank m e n < rank m e k) (sym (round full)) (at_end full))
    (cases_lt (k + 1) m)
  where
    onward : k + 1 < m → rank m e (k + 1) < rank m e k
    onward room =
        ⊎_elim
        (λ (past : e < k).
        let a = rank_past m e k past in
        let b = rank_past m e (k + 1) (omega (arith, past)) in
        omega (arith, a, b, room, under, low))
        (λ (ahead : k ≤ e).
        ⊎_elim (λ (same : k ≡ e). absurd (other same))
        (λ (apart : k ≡ e → ⊥).
        let a = rank_ahead m e k ahead in
        let b = rank_ahead m e (k + 1) (omega (arith, ahead, apart)) in
        omega (arith, a, b, ahead, apart))
        (cases_eq k e))
        (cases_lt e k)

    round : m ≤ k + 1 → (k + 1) % m ≡ 0
    round full = let same : k + 1 ≡ m = omega (arith, full, under) in ap (λ n. n % m) same ∙ mod_self m

    at_end : m ≤ k + 1 → rank m e 0 < rank m e k
    at_end full =
        ⊎_elim
        (λ (past : e < k).
        let a = rank_past m e k past in
        let b = rank_ahead m e 0 (omega arith) in
        omega (arith, a, b, full, under, low))
        (λ (ahead : k ≤ e). absurd (other (omega (arith, ahead, low, full)))) (cases_lt e k)

abbrev pub Fell : List ℕ → ℕ → ℕ → List Item → Type 0
Fell ms e k xs =
    ((edge_priority ms k xs ≡ 1) × (focus_behind ms k xs ≡ k))
    ⊎ (rank (length ms) e (focus_behind ms k xs) < rank (length ms) e k)

pub rank_falls : (ms : List ℕ) (e k : ℕ) (xs : List Item) (y : Item)
    → e < length ms
    → k < length ms
    → IsMember y xs
    → y.later ≡ true
    → key (due y) ≡ get_or ms e 0
    → Fell ms e k xs
rank_falls [] e k xs y low under member later is = absurd (omega (arith, low))
rank_falls (c ∷ cs) e k xs y low under member later is = by_test (cases_Bool (is_put_off (c ∷ cs) k xs))
  where
    by_test : (is_put_off (c ∷ cs) k xs ≡ true) ⊎ (is_put_off (c ∷ cs) k xs ≡ false) → Fell (c ∷ cs) e k xs
    by_test (inl t) =
        inl (
          cond-true (is_put_off (c ∷ cs) k xs) 1 0 t,
          cond-true (is_put_off (c ∷ cs) k xs) k ((k + 1) % length (c ∷ cs)) t,
        )
    by_test (inr f) =
        inr (
        subst (λ n. rank (length (c ∷ cs)) e n < rank (length (c ∷ cs)) e k)
        (sym (cond-false (is_put_off (c ∷ cs) k xs) k ((k + 1) % length (c ∷ cs)) f))
        (moved (length (c ∷ cs)) e k low under
        (λ same. false≢true (sym f
        ∙ member-list_any (λ x. x.later && (key (due x) == get_or (c ∷ cs) k 0)) y xs member
        (and_from y.later (key (due y) == get_or (c ∷ cs) k 0) later
        (eq-eqb (key (due y)) (get_or (c ∷ cs) k 0) (is ∙ ap (λ n. get_or (c ∷ cs) n 0) (sym same))))))))
