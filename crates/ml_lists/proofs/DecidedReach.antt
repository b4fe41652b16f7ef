-- Whether one number leads to another along a decided relation is decided.
--
--   FirstStep     == the first step of a way, and the rest
--   first_step    == a way of at least one step has them
--   no_step       == a way of no step leads from a number to itself
--   Leads R v w   == a way of some number of steps leads from v to w
--   decided_leads == among numbers below a bound that is decided
use Rattle.std.proofs.Common.{◌≡◌, ℕ, zero, suc, ◌+◌, ◌<◌, refl, sym, ◌∙◌, subst, arith}
use Rattle.ml_lists.specs.Reach.{Reaches}
use Rattle.ml_lists.specs.Found.{Found}
use Rattle.ml_lists.proofs.Decided.{Decided, decided_same, decided_number}
use Rattle.ml_lists.proofs.Reach.{reaches_self, reaches_step, reaches_short}
use Rattle.ml_lists.proofs.Deciding.{decided_and, some_below}

-- the first step of a way, and the rest
pub record FirstStep (R : ℕ → ℕ → Type 0) (v w m : ℕ) : Type 0 where
  pub next : ℕ
  pub step : R v next
  pub rest : Reaches R next w m

-- a way of some number of steps
pub record Leads (R : ℕ → ℕ → Type 0) (v w : ℕ) : Type 0 where
  pub steps : ℕ
  pub reaches : Reaches R v w steps

module _ (R : ℕ → ℕ → Type 0) where
  pub first_step : (v w m : ℕ) → Reaches R v w (suc m) → FirstStep R v w m
  first_step v w m r = record {
    next = r.way 1;
    step = subst (λ x. R x (r.way 1)) r.begins (r.steps 0 (omega arith));
    rest = record {
      way = λ k. r.way (suc k);
      begins = refl;
      ends = r.ends;
      steps = λ k low.
          let e : suc k + 1 ≡ suc (k + 1) = omega arith in
          subst (λ i. R (r.way (suc k)) (r.way i)) e (r.steps (suc k) (omega arith));
    };
  }

  pub no_step : (v w : ℕ) → Reaches R v w 0 → v ≡ w
  no_step v w r = sym r.begins ∙ r.ends

  module _ (n : ℕ) (bounded : (x y : ℕ) → R x y → y < n) (decide : (x y : ℕ) → Decided (R x y)) where
    decided_way : (m v w : ℕ) → Decided (Reaches R v w m)
    decided_way zero v w =
        decided_same (λ same. subst (λ x. Reaches R v x 0) same (reaches_self R v)) (no_step v w) (decided_number v w)
    decided_way (suc m) v w = decided_same there back
        (some_below (λ x. R v x × Reaches R x w m) n (λ x low. decided_and (decide v x) (λ step. decided_way m x w)))
      where
        there : Found (λ x. R v x × Reaches R x w m) n → Reaches R v w (suc m)
        there f = reaches_step R v f.place w m f.holds.0 f.holds.1

        back : Reaches R v w (suc m) → Found (λ x. R v x × Reaches R x w m) n
        back r =
            let first = first_step v w m r in
            record { place = first.next; below = bounded v first.next first.step; holds = (first.step, first.rest) }

    pub decided_leads : (v w : ℕ) → v < n → Decided (Leads R v w)
    decided_leads v w low = decided_same there back (some_below (Reaches R v w) n (λ m few. decided_way m v w))
      where
        there : Found (Reaches R v w) n → Leads R v w
        there f = record { steps = f.place; reaches = f.holds }

        back : Leads R v w → Found (Reaches R v w) n
        back l =
            let short = reaches_short R n bounded l.steps v w l.steps (omega arith) low l.reaches in
            record { place = short.steps; below = short.few; holds = short.reaches }
