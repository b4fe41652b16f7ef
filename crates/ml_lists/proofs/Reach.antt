-- Reachability along a relation on numbers.
--
--   reaches_self    == a number reaches itself in no step
--   reaches_step    == one step more in front
--   reaches_last    == one step more at the end
--   reaches_through == ways can be joined
--   reaches_keeps   == what each step keeps, and holds at first, holds at the end
--   ShortWay        == a way of fewer than n steps
--   reaches_short   == among numbers below n, what is reached at all is reached in fewer than n steps
use Rattle.std.proofs.Common.{ℕ, zero, suc, ◌≡◌, ◌+◌, ◌-◌, ◌<◌, ◌≤◌, ◌⊎◌, inl, inr, cond, leb, arith, subst, subst₂, sym, ap, ◌∙◌, refl, add-one, le-leb}
use Rattle.std.proofs.lemmas.Bool.{cases_lt, cond-true, cond-false, lt-leb}
use Rattle.ml_lists.specs.Reach.{Reaches}
use Rattle.ml_lists.specs.Pigeons.{Twice}
use Rattle.ml_lists.proofs.Pigeons.{pigeons}
use Rattle.ml_lists.proofs.Loops.{onward_to}

-- a number reaches itself in no step
pub reaches_self : (R : ℕ → ℕ → Type 0) (v : ℕ) → Reaches R v v 0
reaches_self R v = record { way = λ k. v; begins = refl; ends = refl; steps = λ k low. absurd (omega arith) }

-- a sequence with one number more in front
abbrev pub in_front : ℕ → (ℕ → ℕ) → ℕ → ℕ
in_front v c zero = v
in_front v c (suc k) = c k

-- one step more in front
pub reaches_step : (R : ℕ → ℕ → Type 0) (v x w m : ℕ) → R v x → Reaches R x w m → Reaches R v w (suc m)
reaches_step R v x w m first r = record { way = in_front v r.way; begins = refl; ends = r.ends; steps = steps }
  where
    steps : (k : ℕ) → k < suc m → R (in_front v r.way k) (in_front v r.way (k + 1))
    steps zero low = subst (R v) (sym r.begins) first
    steps (suc k) low =
        let e : suc (k + 1) ≡ suc k + 1 = omega arith in
        subst (λ i. R (r.way k) (in_front v r.way i)) e (r.steps k (omega arith))

-- ways can be joined
pub reaches_through : (R : ℕ → ℕ → Type 0) (v x w m n : ℕ) → Reaches R v x m → Reaches R x w n → Reaches R v w (m + n)
reaches_through R v x w m n a b = record {
  way = joined;
  begins = first (cases_lt 0 m);
  ends = after (m + n) (omega arith) ∙ ap b.way (let e : m + n - m ≡ n = omega arith in e) ∙ b.ends;
  steps = λ k low. step k low (cases_lt k m) (cases_lt (k + 1) m);
}
  where
    joined : ℕ → ℕ
    joined k = cond (leb m k) (b.way (k - m)) (a.way k)

    before : (k : ℕ) → k < m → joined k ≡ a.way k
    before k low = cond-false (leb m k) (b.way (k - m)) (a.way k) (lt-leb m k low)

    after : (k : ℕ) → m ≤ k → joined k ≡ b.way (k - m)
    after k past = cond-true (leb m k) (b.way (k - m)) (a.way k) (le-leb m k past)

    first : (0 < m) ⊎ (m ≤ 0) → joined 0 ≡ v
    first (inl some) = before 0 some ∙ a.begins
    first (inr none) =
        let here : b.way (0 - m) ≡ x = ap b.way (let e : 0 - m ≡ 0 = omega arith in e) ∙ b.begins in
        let there : x ≡ v = sym a.ends ∙ ap a.way (let e : m ≡ 0 = omega arith in e) ∙ a.begins in
        after 0 none ∙ here ∙ there

    step : (k : ℕ) → k < m + n → (k < m) ⊎ (m ≤ k) → (k + 1 < m) ⊎ (m ≤ k + 1) → R (joined k) (joined (k + 1))
    step k low (inl here) (inl next) = subst₂ R (sym (before k here)) (sym (before (k + 1) next)) (a.steps k here)
    step k low (inl here) (inr next) =
        let last : a.way (k + 1) ≡ joined (k + 1) =
        ap a.way (let e : k + 1 ≡ m = omega arith in e)
        ∙ a.ends
        ∙ sym b.begins
        ∙ ap b.way (let e : 0 ≡ k + 1 - m = omega arith in e)
        ∙ sym (after (k + 1) next) in
        subst₂ R (sym (before k here)) last (a.steps k here)
    step k low (inr here) next =
        let e : k - m + 1 ≡ k + 1 - m = omega arith in
        subst₂ R (sym (after k here)) (ap b.way e ∙ sym (after (k + 1) (omega arith))) (b.steps (k - m) (omega arith))

-- one step more at the end
pub reaches_last : (R : ℕ → ℕ → Type 0) (v x w m : ℕ) → Reaches R v x m → R x w → Reaches R v w (suc m)
reaches_last R v x w m r last = subst (Reaches R v w) (add-one m) (reaches_through R v x w m 1 r (reaches_step R x w w 0 last (reaches_self R w)))

-- what each step keeps, and holds at first, holds at the end
pub reaches_keeps : (R : ℕ → ℕ → Type 0) (P : ℕ → Type 0) → ((x y : ℕ) → R x y → P x → P y) → (v w m : ℕ)
    → Reaches R v w m → P v → P w
reaches_keeps R P keeps v w m r first =
    subst P r.ends
    (onward_to r.way P m (λ k low here. keeps (r.way k) (r.way (k + 1)) (r.steps k low) here) 0 m (omega arith)
    (omega arith) (subst P (sym r.begins) first))

-- a way of fewer than n steps
pub record ShortWay (R : ℕ → ℕ → Type 0) (v w n : ℕ) : Type 0 where
  pub steps : ℕ
  pub few : steps < n
  pub reaches : Reaches R v w steps

-- a way that meets a number twice can leave out what lies between
cut : (R : ℕ → ℕ → Type 0) (v w m : ℕ) (r : Reaches R v w m) (i j : ℕ) → i < j → j ≤ m → r.way i ≡ r.way j
    → Reaches R v w (m - (j - i))
cut R v w m r i j apart within same =
    subst (Reaches R v w) (let e : i + (m - j) ≡ m - (j - i) = omega arith in e)
    (reaches_through R v (r.way i) w i (m - j) start rest)
  where
    start : Reaches R v (r.way i) i
    start = record { way = r.way; begins = r.begins; ends = refl; steps = λ k low. r.steps k (omega arith) }

    rest : Reaches R (r.way i) w (m - j)
    rest = record {
      way = λ k. r.way (j + k);
      begins = ap r.way (let e : j + 0 ≡ j = omega arith in e) ∙ sym same;
      ends = ap r.way (let e : j + (m - j) ≡ m = omega arith in e) ∙ r.ends;
      steps = λ k low. subst (λ i. R (r.way (j + k)) (r.way i)) (let e : j + k + 1 ≡ j + (k + 1) = omega arith in e) (r.steps (j + k) (omega arith));
    }

-- among numbers below n, what is reached at all is reached in fewer than n steps
pub reaches_short : (R : ℕ → ℕ → Type 0) (n : ℕ) → ((x y : ℕ) → R x y → y < n) → (fuel v w m : ℕ) → m ≤ fuel → v < n
    → Reaches R v w m → ShortWay R v w n
reaches_short R n bounded zero v w m small low r = record { steps = m; few = omega arith; reaches = r }
reaches_short R n bounded (suc fuel) v w m small low r = by_length (reaches_short R n bounded fuel v w) (cases_lt m n)
  where
    below : (k : ℕ) → k ≤ m → r.way k < n
    below k fits =
        onward_to r.way (λ x. x < n) m (λ i here inside. bounded (r.way i) (r.way (i + 1)) (r.steps i here)) 0 k
        (omega arith) fits (subst (λ x. x < n) (sym r.begins) low)

    shorter : ((l : ℕ) → l ≤ fuel → v < n → Reaches R v w l → ShortWay R v w n) → n ≤ m → Twice r.way n
        → ShortWay R v w n
    shorter again long t =
        again (m - (t.second - t.first)) (omega (arith, t.apart, t.within)) low
        (cut R v w m r t.first t.second t.apart (omega (arith, t.within)) t.same)

    by_length : ((l : ℕ) → l ≤ fuel → v < n → Reaches R v w l → ShortWay R v w n) → (m < n) ⊎ (n ≤ m)
        → ShortWay R v w n
    by_length again (inl short) = record { steps = m; few = short; reaches = r }
    by_length again (inr long) = shorter again long (pigeons n r.way (λ k fits. below k (omega arith)))
