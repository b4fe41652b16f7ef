-- One step of a stack at a front that stays as it is.
--
-- Let a stack begin with the front p before and behind a step. What the target took is no worse than the offer, and
-- names only fall when they are renumbered: so it begins with p too, no name of p changes its number, and none at or
-- below one is lost. If the last name of p isn't full, the name that follows p in the offer is followed by one no
-- greater behind the step.
--
--   Quiet full p      == the last name of p is not full
--   front_kept        == a name of the front survives with its number
--   FollowedBy p x s  == the stack s begins with p, and then has a name at most x
--   front_followed    == the name that follows the front does not rise
use Rattle.std.proofs.Common.{ℕ, ◌≡◌, ◌<◌, ◌≤◌, ◌⊎◌, inl, inr, arith, Bool, true, false, eqb, List, [], ◌∷◌, ◌++◌, map, refl, sym, subst, ap, ◌∙◌}
use Rattle.std.proofs.lemmas.Bool.{cases_Bool, or_cases, or_left, or_right, eqb-true, eq-eqb}
use Rattle.ml_lists.specs.Counting.{count}
use Rattle.ml_lists.proofs.Counting.{count_le}
use Rattle.ml_lists.proofs.Entries.{same_head}
use Rattle.ml_trace.specs.Stack.{has, ends_in}
use Rattle.ml_trace.proofs.Stacks.{ends-cons}
use Rattle.ml_history.specs.HistoryStep.{beats, through}
use Rattle.ml_history.proofs.definition.OrderOfOffers.{beats-cases_not}
use Rattle.ml_history.proofs.definition.CutStacks.{through-stops, through-goes}

-- the last name of p is not full
abbrev pub Quiet : (ℕ → Bool) → List ℕ → Type 0
Quiet full p = (z : ℕ) → ends_in z p ≡ true → full z ≡ false

-- the others of a list
tails : (x y : ℕ) (xs ys : List ℕ) → x ∷ xs ≡ y ∷ ys → xs ≡ ys
tails x y xs ys e = cc

module _ (full alive : ℕ → Bool) where
  -- the stack behind the step begins with the new number of the first name that was taken
  first_number : (x : ℕ) (t : List ℕ) (z : ℕ) (rest : List ℕ)
      → map (count alive) (through full (x ∷ t)) ≡ z ∷ rest
      → count alive x ≡ z
  first_number x t z rest e = by_test (cases_Bool (full x))
    where
      by_test : (full x ≡ true) ⊎ (full x ≡ false) → count alive x ≡ z
      by_test (inl stops) = same_head (count alive x) z [] rest
          (ap (map (count alive)) (sym (through-stops full x t stops)) ∙ e)
      by_test (inr goes) = same_head (count alive x) z (map (count alive) (through full t)) rest
          (ap (map (count alive)) (sym (through-goes full x t goes)) ∙ e)

  -- if the first name is not full, the rest is what the others give
  other_numbers : (x : ℕ) (t : List ℕ) (z : ℕ) (rest : List ℕ)
      → full x ≡ false
      → map (count alive) (through full (x ∷ t)) ≡ z ∷ rest
      → map (count alive) (through full t) ≡ rest
  other_numbers x t z rest goes e =
      tails (count alive x) z (map (count alive) (through full t)) rest
      (ap (map (count alive)) (sym (through-goes full x t goes)) ∙ e)

  -- if it is full, nothing follows
  no_others : (x : ℕ) (t : List ℕ) (z : ℕ) (rest : List ℕ)
      → full x ≡ true
      → map (count alive) (through full (x ∷ t)) ≡ z ∷ rest
      → [] ≡ rest
  no_others x t z rest stops e = tails (count alive x) z [] rest
      (ap (map (count alive)) (sym (through-stops full x t stops)) ∙ e)

  -- the first name that was taken is that of the offer, if it has this number behind the step
  first_same : (z x : ℕ) (o t : List ℕ)
      → ((z ≡ x) × (beats o t ≡ false)) ⊎ (x < z)
      → count alive x ≡ z
      → (z ≡ x) × (beats o t ≡ false)
  first_same z x o t (inl same) e = same
  first_same z x o t (inr low) e = let le = count_le alive x in absurd (omega arith)

  -- a name of the front survives with its number
  pub front_kept : (p o t b : List ℕ)
      → beats (p ++ o) t ≡ false
      → map (count alive) (through full t) ≡ p ++ b
      → ((v : ℕ) → has v (through full t) ≡ true → alive v ≡ true)
      → (z : ℕ)
      → has z p ≡ true
      → (count alive z ≡ z) × (alive z ≡ true)
  front_kept [] o t b unbeaten e cut z h = absurd (cc)
  front_kept (y ∷ ys) o [] b unbeaten e cut z h = absurd (cc)
  front_kept (y ∷ ys) o (x ∷ t) b unbeaten e cut z h =
      by_part (or_cases (eqb y z) (has z ys) h) (cases_Bool (full x)) (front_kept ys o t b)
    where
      number : count alive x ≡ y
      number = first_number x t y (ys ++ b) e

      same : (y ≡ x) × (beats (ys ++ o) t ≡ false)
      same = first_same y x (ys ++ o) t (beats-cases_not y x (ys ++ o) t unbeaten) number

      in_cut : (full x ≡ true) ⊎ (full x ≡ false) → has x (through full (x ∷ t)) ≡ true
      in_cut (inl stops) = subst (λ v. has x v ≡ true) (sym (through-stops full x t stops))
          (or_left (eqb x x) false (eq-eqb x x refl))
      in_cut (inr goes) = subst (λ v. has x v ≡ true) (sym (through-goes full x t goes))
          (or_left (eqb x x) (has x (through full t)) (eq-eqb x x refl))

      here : (full x ≡ true) ⊎ (full x ≡ false) → y ≡ z → (count alive z ≡ z) × (alive z ≡ true)
      here f is =
          let x_is : x ≡ z = sym same.0 ∙ is in
          (subst (λ v. count alive v ≡ z) x_is (number ∙ is), subst (λ v. alive v ≡ true) x_is (cut x (in_cut f)))

      none : (vs : List ℕ) → has z vs ≡ true → [] ≡ vs ++ b → ⊥
      none [] n wrong = cc
      none (v ∷ vs) n wrong = cc

      by_part : (eqb y z ≡ true) ⊎ (has z ys ≡ true)
          → (full x ≡ true) ⊎ (full x ≡ false)
          → (beats (ys ++ o) t ≡ false → map (count alive) (through full t) ≡ ys ++ b
          → ((v : ℕ) → has v (through full t) ≡ true → alive v ≡ true) → (w : ℕ) → has w ys ≡ true
          → (count alive w ≡ w) × (alive w ≡ true))
          → (count alive z ≡ z) × (alive z ≡ true)
      by_part (inl first) f rest = here f (eqb-true y z first)
      by_part (inr later) (inl stops) rest = absurd (none ys later (no_others x t y (ys ++ b) stops e))
      by_part (inr later) (inr goes) rest =
          rest same.1 (other_numbers x t y (ys ++ b) goes e)
          (λ v n. cut v (subst (λ u. has v u ≡ true) (sym (through-goes full x t goes))
          (or_right (eqb x v) (has v (through full t)) n))) z later

-- the stack s begins with p, and then has a name at most x
pub record FollowedBy (p : List ℕ) (x : ℕ) (s : List ℕ) : Type 0 where
  pub name : ℕ
  pub rest : List ℕ
  pub is : s ≡ p ++ name ∷ rest
  pub low : name ≤ x

module _ (full alive : ℕ → Bool) where
  -- the rest behind the front begins with a name at most x
  pub front_followed : (p o t b : List ℕ) (x : ℕ)
      → Quiet full p
      → beats (p ++ x ∷ o) t ≡ false
      → map (count alive) (through full t) ≡ p ++ b
      → FollowedBy [] x b
  front_followed [] o [] b x quiet unbeaten e = absurd (cc)
  front_followed [] o (v ∷ t) b x quiet unbeaten e = by_test (cases_Bool (full v))
    where
      low : ((x ≡ v) × (beats o t ≡ false)) ⊎ (v < x) → v ≤ x
      low (inl same) = omega (arith, same.0)
      low (inr less) = omega arith

      small : count alive v ≤ x
      small = omega (arith, count_le alive v, low (beats-cases_not x v o t unbeaten))

      by_test : (full v ≡ true) ⊎ (full v ≡ false) → FollowedBy [] x b
      by_test (inl stops) = record {
        name = count alive v;
        rest = [];
        is = sym e
            ∙ ap (map (count alive)) (through-stops full v t stops);
        low = small;
      }
      by_test (inr goes) = record {
        name = count alive v;
        rest = map (count alive) (through full t);
        is = sym e
            ∙ ap (map (count alive)) (through-goes full v t goes);
        low = small;
      }
  front_followed (y ∷ ys) o [] b x quiet unbeaten e = absurd (cc)
  front_followed (y ∷ ys) o (v ∷ t) b x quiet unbeaten e = by_test (cases_Bool (full v)) (front_followed ys o t b x)
    where
      number : count alive v ≡ y
      number = first_number full alive v t y (ys ++ b) e

      same : (y ≡ v) × (beats (ys ++ x ∷ o) t ≡ false)
      same = first_same full alive y v (ys ++ x ∷ o) t (beats-cases_not y v (ys ++ x ∷ o) t unbeaten) number

      last_full : (vs : List ℕ)
          → full v ≡ true
          → [] ≡ vs ++ b
          → ((z : ℕ) → ends_in z (y ∷ vs) ≡ true → full z ≡ false)
          → ⊥
      last_full [] stops none still =
          let f : full y ≡ false = still y (eq-eqb y y refl) in
          let g : full y ≡ true = subst (λ w. full w ≡ true) (sym same.0) stops in
          cc
      last_full (w ∷ ws) stops none still = cc

      by_test : (full v ≡ true) ⊎ (full v ≡ false)
          → (Quiet full ys → beats (ys ++ x ∷ o) t ≡ false → map (count alive) (through full t) ≡ ys ++ b
          → FollowedBy [] x b)
          → FollowedBy [] x b
      by_test (inl stops) rest = absurd (last_full ys stops (no_others full alive v t y (ys ++ b) stops e) quiet)
      by_test (inr goes) rest = rest (λ z ends. quiet z (ends-cons z y ys ends)) same.1
          (other_numbers full alive v t y (ys ++ b) goes e)
