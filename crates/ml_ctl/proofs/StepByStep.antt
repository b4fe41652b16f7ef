-- Temporal operators by one step, and by what is to come.
--
--   next_is_place      == the next place of a lasso is a place
--   read_step_by_step  == the law on one step
--   read_ahead         == the law on what is to come
use Rattle.std.proofs.Common.{ℕ, ◌<◌, ◌⊎◌, ◌↔◌, inl, inr}
use Rattle.ml_lists.specs.Lasso.{Lasso, next_place}
use Rattle.ml_lists.proofs.Unrolling.{next_place_low}
use Rattle.ml_base.specs.Structure.{Structure}
use Rattle.ml_ctl.specs.Formula.{Formula}
use Rattle.ml_ctl.specs.Laws.{ReadsStepByStep, ReadStepByStep, ReadsAhead, ReadAhead}
use Rattle.ml_ctl.specs.Meaning.{Nowhere, Everywhere, TruthAt}
use Rattle.ml_ctl.specs.Paths.{places}
use Rattle.ml_ctl.specs.Unrolled.{IsPlace, after}
use Rattle.ml_ctl.proofs.Iterated.{Meets, Met, until_exactly, until_steps, release_exactly, release_steps}

pub closed : (l : Lasso) → l.start < places l → (i : ℕ) → i < places l → next_place l i < places l
closed l starts i low = next_place_low l starts i low

pub next_is_place : (l : Lasso) (i : ℕ) → IsPlace l i → IsPlace l (next_place l i)
next_is_place l i (starts, low) = (starts, closed l starts i low)

-- two equivalences one after the other
pub both_ways : {P Q R : Type 0} → P ↔ Q → Q ↔ R → P ↔ R
both_ways (a, b) (c, d) = ((λ p. c (a p)), (λ r. b (d r)))

weak_step : {P Q R : Type 0} → ((P ⊎ Q) × (Q ⊎ R)) ↔ (Q ⊎ (P × R))
weak_step {P = P} {Q = Q} {R = R} = (there, back)
  where
    there : (P ⊎ Q) × (Q ⊎ R) → Q ⊎ (P × R)
    there (either, inl q) = inl q
    there (inl p, inr r) = inr (p, r)
    there (inr q, inr r) = inl q

    back : Q ⊎ (P × R) → (P ⊎ Q) × (Q ⊎ R)
    back (inl q) = (inr q, inl q)
    back (inr (p, r)) = (inl p, inr r)

drop_true : {P Q : Type 0} → (P ⊎ (Unit {0} × Q)) ↔ (P ⊎ Q)
drop_true {P = P} {Q = Q} = (there, back)
  where
    there : P ⊎ (Unit {0} × Q) → P ⊎ Q
    there (inl p) = inl p
    there (inr (t, q)) = inr q

    back : P ⊎ Q → P ⊎ (Unit {0} × Q)
    back (inl p) = inl p
    back (inr q) = inr (tt, q)

drop_false : {P Q : Type 0} → (P × (⊥ ⊎ Q)) ↔ (P × Q)
drop_false {P = P} {Q = Q} = (there, (λ both. (both.0, inr both.1)))
  where
    there : P × (⊥ ⊎ Q) → P × Q
    there (p, inl none) = absurd none
    there (p, inr q) = (p, q)

module _ (m : Structure) (l : Lasso) (f g : Formula) (i : ℕ) (place : IsPlace l i) where
  abbrev F : ℕ → Type 0
  F = TruthAt m l f

  abbrev G : ℕ → Type 0
  G = TruthAt m l g

  abbrev n : ℕ
  n = places l

  reads_step_by_step : ReadsStepByStep m l f g i
  reads_step_by_step = record {
    until = until_steps (next_place l) F G n (closed l place.0) i place.1;
    release = release_steps (next_place l) F G n (closed l place.0) i place.1;
    weak = both_ways (release_steps (next_place l) G (λ j. F j ⊎ G j) n (closed l place.0) i place.1) weak_step;
    finally = both_ways (until_steps (next_place l) Everywhere G n (closed l place.0) i place.1) drop_true;
    globally = both_ways (release_steps (next_place l) Nowhere G n (closed l place.0) i place.1) drop_false;
  }

  finally_meets : Meets (next_place l) Everywhere G i ↔ ((k : ℕ) × G (after l i k))
  finally_meets = ((λ meets. (meets.0, meets.1)), (λ some. (some.0, some.1, λ h low. tt)))

  never_met : (k : ℕ) → Met (next_place l) Nowhere G i k ⊎ G (after l i k) → G (after l i k)
  never_met k (inl met) = absurd met.2
  never_met k (inr here) = here

  globally_keeps : ((k : ℕ) → Met (next_place l) Nowhere G i k ⊎ G (after l i k)) ↔ ((k : ℕ) → G (after l i k))
  globally_keeps = ((λ all k. never_met k (all k)), (λ all k. inr (all k)))

  reads_ahead : ReadsAhead m l f g i
  reads_ahead = record {
    next = ((λ here. here), (λ here. here));
    until = until_exactly (next_place l) F G n (closed l place.0) i place.1;
    release = release_exactly (next_place l) F G n (closed l place.0) i place.1;
    weak = release_exactly (next_place l) G (λ j. F j ⊎ G j) n (closed l place.0) i place.1;
    finally = both_ways (until_exactly (next_place l) Everywhere G n (closed l place.0) i place.1) finally_meets;
    globally = both_ways (release_exactly (next_place l) Nowhere G n (closed l place.0) i place.1) globally_keeps;
  }

pub read_step_by_step : ReadStepByStep
read_step_by_step m l f g i place = reads_step_by_step m l f g i place

pub read_ahead : ReadAhead
read_ahead m l f g i place = reads_ahead m l f g i place
