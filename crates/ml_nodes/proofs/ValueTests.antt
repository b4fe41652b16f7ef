-- A test that tells equal values, where their equality is decided.
--
--   value_eq same p q == are p and q equal?
--   value_eq-tells    == the test tells it
use Rattle.std.proofs.Common.{◌≡◌, inl, inr, Bool, true, false, refl}
use Rattle.std.specs.Bool.{Decides}
use Rattle.ml_lists.proofs.Decided.{Decided}

is_so : {P : Type 0} → Decided P → Bool
is_so (inl p) = true
is_so (inr none) = false

is_so-decides : {P : Type 0} (d : Decided P) → Decides (is_so d) P
unfolding is_so
is_so-decides (inl p) = ((λ e. p), (λ h. refl))
is_so-decides (inr none) = ((λ e. absurd (cc)), (λ h. absurd (none h)))

pub value_eq : {P : Type 0} → ((p q : P) → Decided (p ≡ q)) → P → P → Bool
value_eq same p q = is_so (same p q)

pub value_eq-tells : {P : Type 0} (same : (p q : P) → Decided (p ≡ q)) (p q : P) → Decides (value_eq same p q) (p ≡ q)
unfolding value_eq
value_eq-tells same p q = is_so-decides (same p q)
