-- Steps on properties of places that say the same of the next place.
--
--   IsIterated n S start A x  == at the place x, A is a fixed point of the step S, and the n-th iterate of it
--   iterates_alike            == steps that say alike have iterates that do
--   iterated                  == what is steady under a step is a fixed point of each step that says alike
--   iterated_at_once          == a step that asks nothing of the next place
use Rattle.std.proofs.Common.{ℕ, zero, suc, ◌<◌, ◌↔◌, arith}
use Rattle.ml_ctl.specs.Meaning.{Property, Everywhere, iterate_of}
use Rattle.ml_ctl.proofs.StepByStep.{both_ways}

pub record IsIterated (n : ℕ) (S : Property → Property) (start A : Property) (x : ℕ) : Type 0 where
  pub steps : A x ↔ S A x
  pub iterates : A x ↔ iterate_of n S start x

pub itself : {P : Type 0} → P ↔ P
itself = ((λ p. p), (λ p. p))

pub back : {P Q : Type 0} → P ↔ Q → Q ↔ P
back (a, b) = (b, a)

module _ (next : ℕ → ℕ) (T S : Property → Property)
    (alike : (P Q : Property) (x : ℕ) → P (next x) ↔ Q (next x) → T P x ↔ S Q x) (start : Property) where
  pub iterates_alike : (k x : ℕ) → iterate_of k T start x ↔ iterate_of k S start x
  iterates_alike zero x = itself
  iterates_alike (suc k) x = alike (iterate_of k T start) (iterate_of k S start) x (iterates_alike k (next x))

  pub iterated : (n : ℕ) (A : Property)
      → ((x : ℕ) → x < n → next x < n)
      → ((x : ℕ) → x < n → A x ↔ iterate_of n T start x)
      → ((x : ℕ) → x < n → iterate_of n T start x ↔ iterate_of (suc n) T start x)
      → (x : ℕ)
      → x < n
      → IsIterated n S start A x
  iterated n A closed means steady x low = record {
    steps =
        both_ways (both_ways (means x low) (steady x low))
        (alike (iterate_of n T start) A x (back (means (next x) (closed x low))));
    iterates = both_ways (means x low) (iterates_alike n x);
  }

pub iterated_at_once : (n : ℕ) (S : Property → Property) (A : Property) (x : ℕ)
    → x < n
    → ((P Q : Property) → S P x → S Q x)
    → A x ↔ S A x
    → IsIterated n S Everywhere A x
iterated_at_once zero S A x low any same = absurd (omega arith)
iterated_at_once (suc k) S A x low any same = record {
  steps = same;
  iterates = both_ways same (any A (iterate_of k S Everywhere), any (iterate_of k S Everywhere) A);
}
