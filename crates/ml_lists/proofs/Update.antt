-- A function with one value changed: its value there, and elsewhere.
--
--   update-same  == at t the changed function is w
--   update-other == elsewhere it is the old one
use Rattle.std.proofs.Common.{ℕ, ◌≡◌, eqb, eq-eqb, ne_eqb}
use Rattle.std.proofs.lemmas.Bool.{cond-true, cond-false}
use Rattle.ml_lists.specs.Update.{update}

-- at t the changed function is w
pub update-same : {A : Type 0} → (f : ℕ → A) (t : ℕ) (w : A) (v : ℕ) → v ≡ t → update f t w v ≡ w
update-same f t w v same = cond-true (eqb v t) w (f v) (eq-eqb v t same)

-- elsewhere the changed function is the old one
pub update-other : {A : Type 0} → (f : ℕ → A) (t : ℕ) (w : A) (v : ℕ) → (v ≡ t → ⊥) → update f t w v ≡ f v
update-other f t w v other = cond-false (eqb v t) w (f v) (ne_eqb v t other)
