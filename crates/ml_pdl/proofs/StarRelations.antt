-- What a star relates, and at which states a program can be repeated for ever: the n-th iterates on n states are
-- fixpoints.
--
--   star_stays      == a star relates each state to itself
--   star_first      == what a program and then its star relate, the star relates
--   repeat_goes_on  == from a state at which a program can be repeated, it leads to one at which it can
--   repeat_has      == a set from each state of which the program leads into it lies within those states
--   stars_are_least, repetitions_are_greatest == the laws
use Rattle.std.proofs.Common.{◌≡◌, ℕ, zero, suc, ◌+◌, ◌-◌, ◌<◌, ◌==◌, Bool, true, false, not, refl, sym, ap, subst, ◌∙◌, ⊎_elim, arith}
use Rattle.std.proofs.lemmas.Bool.{false≢true, or_cases, or_left, or_right, eq-eqb, eqb-true}
use Rattle.std.proofs.lemmas.List.{get_or-replicate}
use Rattle.ml_lists.specs.Growing.{Grows, Stable}
use Rattle.ml_lists.specs.Iterate.{iterate}
use Rattle.ml_lists.specs.Found.{Found}
use Rattle.ml_lists.proofs.Growing.{stable_soon}
use Rattle.ml_base.specs.Structure.{Structure, StateSet, is_member, everywhere}
use Rattle.ml_base.proofs.StateSets.{member_where}
use Rattle.ml_pdl.specs.Formula.{Program, Star, Repeat}
use Rattle.ml_pdl.specs.declared.term.Modality.TheVariants.{Diamond}
use Rattle.ml_pdl.specs.Meaning.{Relation, identity, either, followed_by, some_run, modal, relation, meaning}
use Rattle.ml_pdl.specs.Laws.{HasRuns, StarsAreLeast, RepetitionsAreGreatest}
use Rattle.ml_pdl.proofs.RunsInto.{into, run_of, of_run}

-- a sequence of sets that grows, and stands still once it stood still, stands still at n
still : (n : ℕ) (sets : ℕ → ℕ → Bool)
    → Grows n sets
    → ((k : ℕ) → Stable n sets k → Stable n sets (suc k))
    → Stable n sets n
still n sets grows more = from (stable_soon n sets grows)
  where
    on : (k d : ℕ) → Stable n sets k → (j : ℕ) → j ≡ k + d → Stable n sets j
    on k zero stable j is = subst (Stable n sets) (let e : k ≡ j = omega (arith, is) in e) stable
    on k (suc d) stable zero is = absurd (omega (arith, is))
    on k (suc d) stable (suc j) is = more j (on k d stable j (omega (arith, is)))

    from : Found (Stable n sets) (suc n) → Stable n sets n
    from f = on f.place (n - f.place) f.holds n (omega (arith, f.below))

module _ (m : Structure) (r : Relation) where
  abbrev pub round : Relation → Relation
  round q = either identity (followed_by m q r)

  abbrev pub rounds : ℕ → Relation
  rounds k = iterate k round identity

  more_rounds : (s : ℕ) (a b : Relation)
      → ((t : ℕ) → t < m.states → a s t ≡ true → b s t ≡ true)
      → (t : ℕ)
      → t < m.states
      → round a s t ≡ true
      → round b s t ≡ true
  more_rounds s a b within t low is =
      ⊎_elim
      (λ (same : (s == t) ≡ true). or_left (s == t) (followed_by m b r s t) same)
      (λ (runs : followed_by m a r s t ≡ true).
      let some = run_of m a (λ u. r u t) s runs in
      or_right (s == t) (followed_by m b r s t)
      (of_run m b (λ u. r u t) s some.state some.low (within some.state some.low some.run) some.inside))
      (or_cases (s == t) (followed_by m a r s t) is)

  grows : (s : ℕ) → Grows m.states (λ k t. rounds k s t)
  grows s zero t low is = or_left (s == t) (followed_by m identity r s t) is
  grows s (suc k) t low is = more_rounds s (rounds k) (rounds (suc k)) (grows s k) t low is

  stands : (s : ℕ) → Stable m.states (λ k t. rounds k s t) m.states
  stands s =
      still m.states (λ k t. rounds k s t) (grows s)
      (λ k stable t low is. more_rounds s (rounds (suc k)) (rounds k) stable t low is)

  abbrev all : Relation
  all = rounds m.states

  stays_at : (k s : ℕ) → rounds k s s ≡ true
  stays_at zero s = eq-eqb s s refl
  stays_at (suc k) s = or_left (s == s) (followed_by m (rounds k) r s s) (eq-eqb s s refl)

  last_round : (s u t : ℕ) → u < m.states → t < m.states → all s u ≡ true → r u t ≡ true → all s t ≡ true
  last_round s u t u_low t_low a b =
      stands s t t_low (or_right (s == t) (followed_by m all r s t) (of_run m all (λ v. r v t) s u u_low a b))

  first_round : (k s u t : ℕ)
      → u < m.states
      → t < m.states
      → s < m.states
      → r s u ≡ true
      → rounds k u t ≡ true
      → all s t ≡ true
  first_round zero s u t u_low t_low s_low a b =
      last_round s s t s_low t_low (stays_at m.states s) (subst (λ x. r s x ≡ true) (eqb-true u t b) a)
  first_round (suc k) s u t u_low t_low s_low a b =
      ⊎_elim
      (λ (same : (u == t) ≡ true). last_round s s t s_low t_low (stays_at m.states s)
      (subst (λ x. r s x ≡ true) (eqb-true u t same) a))
      (λ (runs : followed_by m (rounds k) r u t ≡ true).
      let some = run_of m (rounds k) (λ v. r v t) u runs in
      last_round s some.state t some.low t_low (first_round k s u some.state u_low some.low s_low a some.run)
      some.inside)
      (or_cases (u == t) (followed_by m (rounds k) r u t) b)

module _ (m : Structure) (p : Program) where
  pub star_stays : (s : ℕ) → relation m (Star p) s s ≡ true
  star_stays s = stays_at m (relation m p) m.states s

  pub star_first : (s u t : ℕ)
      → s < m.states
      → u < m.states
      → t < m.states
      → relation m p s u ≡ true
      → relation m (Star p) u t ≡ true
      → relation m (Star p) s t ≡ true
  star_first s u t s_low u_low t_low a b = first_round m (relation m p) m.states s u t u_low t_low s_low a b

  -- ---- repetition

  abbrev lead : StateSet → StateSet
  lead = modal m Diamond (relation m p)

  abbrev kept : ℕ → StateSet
  kept k = iterate k lead (everywhere m)

  leads : (a b : StateSet) → ((t : ℕ) → t < m.states → is_member a t ≡ true → is_member b t ≡ true)
      → (s : ℕ) → s < m.states → is_member (lead a) s ≡ true → is_member (lead b) s ≡ true
  leads a b within s low is =
      let some = run_of m (relation m p) (is_member a) s
      (sym (member_where m (some_run m (relation m p) a) s low) ∙ is) in
      member_where m (some_run m (relation m p) b) s low ∙ of_run m (relation m p) (is_member b) s some.state some.low
      some.run (within some.state some.low some.inside)

  all_in : (t : ℕ) → t < m.states → is_member (everywhere m) t ≡ true
  all_in t low = get_or-replicate m.states t true false low

  falls : (k s : ℕ) → s < m.states → is_member (kept (suc k)) s ≡ true → is_member (kept k) s ≡ true
  falls zero s low is = all_in s low
  falls (suc k) s low is = leads (kept (suc k)) (kept k) (falls k) s low is

  -- the states that were dropped
  abbrev gone : ℕ → ℕ → Bool
  gone k s = not (is_member (kept k) s)

  turned : (a b : Bool) → (a ≡ true → b ≡ true) → not b ≡ true → not a ≡ true
  turned true b h is = absurd (false≢true (sym (ap not (h refl)) ∙ is))
  turned false b h is = refl

  back : (a b : Bool) → (not a ≡ true → not b ≡ true) → b ≡ true → a ≡ true
  back true b h is = refl
  back false b h is = absurd (false≢true (sym (ap not is) ∙ h refl))

  gone_grows : Grows m.states gone
  gone_grows k s low is = turned (is_member (kept (suc k)) s) (is_member (kept k) s) (falls k s low) is

  gone_still : Stable m.states gone m.states
  gone_still = still m.states gone gone_grows
      (λ k stable s low is. turned (is_member (kept (suc k)) s) (is_member (kept (suc (suc k))) s)
      (λ inside. leads (kept k) (kept (suc k))
      (λ t t_low h. back (is_member (kept (suc k)) t) (is_member (kept k) t) (stable t t_low) h) s low inside) is)

  pub repeat_goes_on : (s : ℕ)
      → s < m.states
      → is_member (meaning m (Repeat p)) s ≡ true
      → into m (relation m p) (is_member (meaning m (Repeat p))) s ≡ true
  repeat_goes_on s low is =
      sym (member_where m (some_run m (relation m p) (kept m.states)) s low)
      ∙ back (is_member (kept (suc m.states)) s) (is_member (kept m.states) s) (gone_still s low) is

  has : (K : ℕ → Bool) → ((s : ℕ) → s < m.states → K s ≡ true → into m (relation m p) K s ≡ true)
      → (k s : ℕ) → s < m.states → K s ≡ true → is_member (kept k) s ≡ true
  has K goes zero s low is = all_in s low
  has K goes (suc k) s low is =
      let some = run_of m (relation m p) K s (goes s low is) in
      member_where m (some_run m (relation m p) (kept k)) s low
      ∙ of_run m (relation m p) (is_member (kept k)) s some.state some.low some.run
      (has K goes k some.state some.low some.inside)

  pub repeat_has : (K : ℕ → Bool) → ((s : ℕ) → s < m.states → K s ≡ true → into m (relation m p) K s ≡ true)
      → (s : ℕ) → s < m.states → K s ≡ true → is_member (meaning m (Repeat p)) s ≡ true
  repeat_has K goes s low is = has K goes m.states s low is

-- ---- the laws

-- a relation that has the runs has as many rounds of them as one likes
has_rounds : (m : Structure) (p : Program) (q : Relation) → HasRuns m p q
    → (k s t : ℕ) → s < m.states → t < m.states → rounds m (relation m p) k s t ≡ true → q s t ≡ true
has_rounds m p q has zero s t s_low t_low is = subst (λ x. q s x ≡ true) (eqb-true s t is) (has.stays s s_low)
has_rounds m p q has (suc k) s t s_low t_low is =
    ⊎_elim
    (λ (same : (s == t) ≡ true). subst (λ x. q s x ≡ true) (eqb-true s t same) (has.stays s s_low))
    (λ (runs : followed_by m (rounds m (relation m p) k) (relation m p) s t ≡ true).
    let some = run_of m (rounds m (relation m p) k) (λ u. relation m p u t) s runs in
    has.goes_on s some.state t s_low some.low t_low (has_rounds m p q has k s some.state s_low some.low some.run)
    some.inside)
    (or_cases (s == t) (followed_by m (rounds m (relation m p) k) (relation m p) s t) is)

pub stars_are_least : StarsAreLeast
stars_are_least m p = (
  record {
    stays = λ s low. star_stays m p s;
    goes_on = λ s t u s_low t_low u_low a b. last_round m (relation m p) s t u t_low u_low a b;
  },
  λ q has s t s_low t_low is. has_rounds m p q has m.states s t s_low t_low is,
)

pub repetitions_are_greatest : RepetitionsAreGreatest
repetitions_are_greatest m p = (
  λ s low is.
      let some = run_of m (relation m p) (is_member (meaning m (Repeat p))) s (repeat_goes_on m p s low is) in
      (some.state, some.low, some.run, some.inside),
  λ set goes s low is.
      repeat_has m p set
      (λ t t_low h. let next = goes t t_low h in of_run m (relation m p) set t next.0 next.1 next.2 next.3)
      s low is,
)
